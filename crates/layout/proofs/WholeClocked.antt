-- The whole file, measured on a clock from tick 0 on.
use Prim.Native.Nat.{ℕ, ◌+◌, ◌/◌, ◌≤◌, ◌<◌}
use native.Mathlib.Omega.{arith}
use mathlib.Core.Path.{◌≡◌, ap, sym, subst}
use mathlib.Core.List.{List}
use lib.ListN.{length}
use Rattle.model.specs.declared.Form.TheVariants.{Equalised}
use Rattle.model.specs.declared.Settings.{Settings}
use Rattle.model.specs.{Trees.skip, Trees.file_tree, Times.time, Layout.commands, Layout.opened, Layout.unroll}
use Rattle.reading.specs.Ranges.{SoundFile}
use Rattle.reading.proofs.Standing.{stands_file}
use Rattle.placing.specs.declared.clock.State.{State}
use Rattle.placing.specs.States.{Layable, After, started}
use Rattle.layout.specs.declared.measure.Passage.{Passage}
use Rattle.layout.specs.{Measured.Entered, Meetings.BlockMeasured, Meetings.FileMeasured, Clocked.BlockLate}
use Rattle.layout.proofs.Whole.{opening, after_opening, opened_lasts, file_entered, file_measured}

module _ {σ : Settings} (L : Layable σ) {o : State} (A : After σ (skip 0 (commands σ (0 + 0))) started o) (s : List ℕ) where
  begun : After σ opening started o
  begun = after_opening L A

  pub opening_late : σ.period < o.tick → σ.period < time σ (opened σ (unroll (file_tree s)))
  opening_late h = omega (arith, opened_lasts L begun (file_tree s))

  module _ (S : SoundFile Equalised s) {state : State} (q : (state ≡ o) × (o.tick ≤ σ.period)) where
    there : After σ opening started state
    there = subst (After σ opening started) (sym q.0) begun

    pub file_lent : Entered s 0 (length s / 12) σ state
    file_lent = file_entered L there S (omega (arith, ap (λ (u : State). u.tick) q.0, q.1))

    pub file_up : BlockLate s 0 (length s / 12) σ state → σ.period < time σ (opened σ (unroll (file_tree s)))
    file_up B = omega (arith, B.late (file_tree s) (stands_file Equalised s S), opened_lasts L there (file_tree s))

    pub file_done : {old new : List ℕ} {r : Passage} → BlockMeasured s 0 (length s / 12) σ state 0 old new r → FileMeasured s σ old new r.state
    file_done B = file_measured L there S B
