-- Where each part of demand 3 is proved.
use mathlib.Core.{Path.◌≡◌, Path.sym, Path.◌∙◌, Logic.◌↔◌}
use Rattle.model.specs.Chain.{End, plain_end_one, plain_end_two, whole_end, stopped_end}
use Rattle.theory.proofs.Preparing.{prepares_reply, prepares_out, prepares_refused}
use Rattle.theory.proofs.Ends.{plain_runs, whole_runs, whole_same, stop_runs, take_up_runs, stopped_same, twice, counted, few}
use Rattle.theory.specs.Demand3.{Demand3, Preparing}

pub preparing : Preparing
preparing k = record { answers = prepares_reply k; writes = prepares_out k; refuses = prepares_refused k }

-- alike to what is the same
alike_to : (a b c : End) → b ≡ c → (a ≡ b) ↔ (a ≡ c)
alike_to a b c e = (λ q. q ∙ e, λ q. q ∙ sym e)

pub demand3 : Demand3
demand3 k lent equalised laid = record {
  plain_one_runs = plain_runs k lent equalised laid k.one k.plain_one lent.one_lent lent.plain_one_lent;
  plain_two_runs = plain_runs k lent equalised laid k.two k.plain_two lent.two_lent lent.plain_two_lent;
  whole_runs = whole_runs k lent equalised laid;
  alike = alike_to (plain_end_one k) (whole_end k) (plain_end_two k) (whole_same k lent equalised laid);
  same = whole_same k lent equalised laid;
  stopped = λ before. record {
    stop_runs = stop_runs k lent equalised laid before;
    take_up_runs = take_up_runs k lent equalised laid before;
    alike = alike_to (plain_end_one k) (stopped_end k) (plain_end_two k) (stopped_same k lent equalised laid before);
    same = stopped_same k lent equalised laid before;
    twice = twice k lent equalised laid before;
    counted = counted k lent equalised laid before;
    few = few k lent equalised laid before;
  };
}
