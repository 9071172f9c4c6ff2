-- Each call of a chain answers and leaves under its own settings what it does under those of the chain.
use mathlib.Core.Path.{◌≡◌, ap, sym, ◌∙◌}
use lib.ListN.{length}
use Rattle.model.specs.{Replies.stop_image, Answers.is_finished}
use Rattle.model.specs.Chain.{Chain, equalised_file, laid_file, plain_loan, whole_loan, stopped_loan, outputs_left, again}
use Rattle.theory.specs.Widened.{SameCalls}
use Rattle.theory.specs.Mixing.{Results, results_of, Forms, AlikeForms, equalised_by, laid_by, results_by, Mixing}
use Rattle.theory.proofs.{SameCalls.same_calls, Demand3.demand3}

module _ (m : Forms) (k : Chain) (A : AlikeForms k.settings m) where
  equalised : SameCalls k.settings m.equalising
  equalised = same_calls k.settings m.equalising A.equalising

  laid : SameCalls k.settings m.laying_out
  laid = same_calls k.settings m.laying_out A.laying_out

  equalised_file_is : equalised_by m k ≡ equalised_file k
  equalised_file_is = rw (equalised.equalise k.task (length k.equalised_room), equalised.equalised k.task k.equalised_room)

  laid_file_is : laid_by m k ≡ laid_file k
  laid_file_is = rw (equalised_file_is, laid.lay_out (equalised_file k) (length k.laid_room), laid.laid (equalised_file k) k.laid_room)

  plain_one_is : SameCalls k.settings m.plain_one
  plain_one_is = same_calls k.settings m.plain_one A.plain_one

  plain_two_is : SameCalls k.settings m.plain_two
  plain_two_is = same_calls k.settings m.plain_two A.plain_two

  whole : SameCalls k.settings m.whole
  whole = same_calls k.settings m.whole A.whole

  stopped : SameCalls k.settings m.stopped
  stopped = same_calls k.settings m.stopped A.stopped

  taken_up_is : SameCalls k.settings m.taken_up
  taken_up_is = same_calls k.settings m.taken_up A.taken_up

  results : results_by m k ≡ results_of k
  results =
      let c = stopped_loan k in
      let i = k.image in
      let n = k.stop in
      let one = plain_loan k k.one k.plain_one in
      let two = plain_loan k k.two k.plain_two in
      let up = again c k.spare (outputs_left c i n) in
      let anew = again c k.two.variables (outputs_left c i n) in
      rw (
        laid_file_is,
        equalised_file_is,
        ← equalised.equalise k.task (length k.equalised_room),
        ← laid.lay_out (equalised_file k) (length k.laid_room),
        ← plain_one_is.run one,
        ← plain_one_is.ran one,
        ← plain_two_is.run two,
        ← plain_two_is.ran two,
        ← whole.run (whole_loan k),
        ← whole.ran (whole_loan k),
        ← stopped.run_until c i n,
        ← stopped.stopped c i n,
        ← stopped.saved c i n,
        ← stopped.steps c,
        ← A.stopped.numbers,
        ← taken_up_is.resume up (stop_image c i n),
        ← taken_up_is.resumed up (stop_image c i n),
        ← taken_up_is.restart anew,
        ← taken_up_is.restarted anew,
      )

pub mixing : Mixing
mixing m k lent A equalises lays =
    let r = results m k A in
    record {
      results = r;
      unseen = demand3 k lent (sym (ap (λ (x : Results). is_finished x.equalising) r) ∙ equalises) (sym (ap (λ (x : Results). is_finished x.laying_out) r) ∙ lays);
    }
