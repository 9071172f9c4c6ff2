use Rattle.std.proofs.Common.{refl, arith}
use Rattle.text.proofs.Pieces.{save_is}
use Rattle.text.proofs.name.Goals as goal

pub returns-in-1-clause-text : goal.returns-in-1-clause-text
returns-in-1-clause-text c = rw c.in-1.is refl

pub returns-in-2-clause-text : goal.returns-in-2-clause-text
returns-in-2-clause-text c = rw c.in-2.is refl

pub returns-in-3-clause-text : goal.returns-in-3-clause-text
returns-in-3-clause-text c = rw c.in-3.is refl

pub returns-in-4-clause-text : goal.returns-in-4-clause-text
returns-in-4-clause-text c = rw c.in-4.is refl

pub returns-in-5-clause-text : goal.returns-in-5-clause-text
returns-in-5-clause-text c = rw c.in-5.is refl

pub returns-in-6-clause-text : goal.returns-in-6-clause-text
returns-in-6-clause-text c = rw c.in-6.is refl

pub returns-in-8-clause-text : goal.returns-in-8-clause-text
returns-in-8-clause-text c = rw c.in-8.is refl

pub returns-in-10-clause-text : goal.returns-in-10-clause-text
returns-in-10-clause-text c = rw c.in-10.is refl

pub returns-in-11-clause-text : goal.returns-in-11-clause-text
returns-in-11-clause-text c = rw c.in-11.is refl

pub returns-in_default-clause-text : goal.returns-in_default-clause-text
returns-in_default-clause-text c =
    save_is c.args.kind (omega arith) (omega arith) (omega arith) (omega arith) (omega arith) (omega arith) (omega arith) (omega arith) (omega arith)
