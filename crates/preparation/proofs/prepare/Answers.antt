use Rattle.std.proofs.Common.{Result, sym, rules}
use Rattle.std.proofs.lemmas.List.{length-take-le}
use Rattle.laws.proofs.Exits.{exits}
use Rattle.model.specs.declared.{LaidOut.LaidOut, Refusal.Refusal}
use Rattle.model.specs.Answers.{laid_out}
use Rattle.preparation.proofs.Preparing.{Prepares, prepare_refused, prepare_fits, prepare_laid}
use Rattle.preparation.proofs.prepare.Goals as goal

pub returns-in_err-made : goal.returns-in_err-made
returns-in_err-made c =
    exits (λ (r : Result LaidOut Refusal). Prepares c.args.settings.now c.args.task.now c.args.out.now c.args.out.now (laid_out r)) c.from_residual.ensures.1
    (prepare_refused c.args.settings.now c.args.task.now c.args.out.now _ c.in_err-made.ensures.0 (search rules))

-- what was written fits the call's own buffer
pub slice_bounds-equalised-end : goal.slice_bounds-equalised-end
slice_bounds-equalised-end c = prepare_fits c.args.settings.now c.args.task.now _ c.in_ok-made.ensures.0 (search rules)

pub slice_bounds-lay_out-end : goal.slice_bounds-lay_out-end
slice_bounds-lay_out-end c =
    sym (length-take-le _ _ (prepare_fits c.args.settings.now c.args.task.now _ c.in_ok-made.ensures.0 (search rules)))

pub returns : goal.returns
returns c =
    prepare_laid c.args.settings.now c.args.task.now c.args.out.now _ c.in_ok-made.ensures.0 c.in_ok-made.ensures.1
    c.lay_out.ensures.0 c.lay_out.ensures.1 (search rules)
