-- How a state goes on while one piece is laid after another.
use Prim.Native.Nat.{ℕ, ◌+◌}
use native.Mathlib.Omega.{arith}
use mathlib.Core.Path.{◌≡◌, refl, ap, sym, ◌∙◌}
use Rattle.model.specs.declared.Settings.{Settings}
use Rattle.model.specs.Trees.{Block, nil, ◌⧺◌, size}
use Rattle.theory.proofs.Times.{time-⧺}
use Rattle.placing.specs.declared.clock.State.{State}
use Rattle.placing.specs.{Merging.settled, Merging.waits, States.cap, States.Shows, States.After}
use Rattle.placing.proofs.Settling.{waits-⧺, size_settled, Alike}

module _ {σ : Settings} where
  pub after_nil : {s : State} → Shows σ s → After σ nil s s
  after_nil S = record { shows = S; tick = omega arith; wait = refl; records = omega (arith, S.few) }

  pub after-⧺ : {s r q : State} (a b : Block) → After σ a s r → After σ b r q → After σ (a ⧺ b) s q
  after-⧺ {s} {r} {q} a b A B =
      let n : size (settled r.wait b) ≡ size (settled (waits s.wait a) b) = ap (λ (m : ℕ). size (settled m b)) A.wait in
      record {
        shows = B.shows;
        tick = omega (arith, A.tick, B.tick, time-⧺ σ a b);
        wait = B.wait ∙ ap (λ (m : ℕ). waits m b) A.wait ∙ sym (waits-⧺ s.wait a b);
        records = omega (arith, A.records, B.records, n, size_settled s.wait a b);
      }

  pub after_alike : {s r : State} {a b : Block} → Alike σ a b → After σ a s r → After σ b s r
  after_alike {s} e A = record {
    shows = A.shows;
    tick = A.tick ∙ ap (λ (t : ℕ). s.tick + t) e.lasts;
    wait = A.wait ∙ e.leaves s.wait;
    records = A.records ∙ ap (λ (c : Block). cap (s.records + size c)) (e.settles s.wait);
  }
