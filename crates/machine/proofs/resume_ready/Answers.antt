use Rattle.std.proofs.Common.{not, ap, ◌∙◌, rules}
use Rattle.stepping.specs.Buffers.{with_variables, with_outputs}
use Rattle.machine.proofs.Whole.{lent, image_stray, image_late, image_started, image_bytes, image_ran}
use Rattle.machine.proofs.resume_ready.Goals as goal

pub returns-then-not-after_save : goal.returns-then-not-after_save
returns-then-not-after_save c =
    image_stray c.requires.0 c.read-last.result c.after_save.ensures c.read-last.ensures (ap not c.if-not-after_save.true)

pub returns-then-rack-tick : goal.returns-then-rack-tick
returns-then-rack-tick c = image_late c.requires.0 c.read-last.result c.after_save.ensures c.read-last.ensures c.if-rack-tick.true

pub run_from-end-requires : goal.run_from-end-requires
run_from-end-requires c =
    image_started c.requires.0 c.read-last.result c.after_save.ensures (ap not c.if-not-after_save.false) c.if-rack-tick.false

pub leave-requires : goal.leave-requires
leave-requires c =
    let k = c.load_outputs.ensures ∙ ap (with_outputs _ _) (c.load_variables.ensures ∙ ap (with_variables _) c.new-store.ensures) in
    let L = lent c.requires.0 in (
      record { variables = L.variables; levels = L.levels; marks = L.marks },
      image_bytes c.requires.0 c.read-last.result c.after_save.ensures (ap not c.if-not-after_save.false) c.if-rack-tick.false
          c.run_from-end.ensures k (λ i. search rules),
    )

pub returns : goal.returns
returns c =
    let k = c.load_outputs.ensures ∙ ap (with_outputs _ _) (c.load_variables.ensures ∙ ap (with_variables _) c.new-store.ensures) in
    rw c.ended.ensures
    (image_ran c.requires.0 c.read-last.result c.after_save.ensures c.read-last.ensures (ap not c.if-not-after_save.false) c.if-rack-tick.false
    c.run_from-end.ensures k c.leave.ensures)
