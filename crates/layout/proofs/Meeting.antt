-- Where the sides of an IF meet: the earlier is filled up to the end of the later, and their records are counted.
use Prim.Native.Nat.{ℕ, ◌+◌, ◌-◌, ◌≤◌, ◌<◌}
use native.Mathlib.Omega.{arith}
use mathlib.Core.Path.{◌≡◌, refl, ap, ap₂, sym, subst, ◌∙◌}
use Rattle.model.specs.declared.Settings.{Settings}
use Rattle.model.specs.Trees.{Block, ◌⧺◌, size}
use Rattle.model.specs.{Times.time, Equalising.merge, Layout.fill, Layout.filled}
use Rattle.records.specs.Blocks.{skip_records}
use Rattle.placing.specs.declared.clock.State.{State}
use Rattle.placing.specs.{Merging.settled, Merging.waits, States.Fillable, States.FillCounted, States.back_to}
use Rattle.layout.specs.Measured.{met_at, Meeting, Meets}
use Rattle.placing.proofs.{Settling.waits-⧺, Settling.size_settled, Settling.size_merge, Moves.shows_on}

-- merging one block after another
pub size_merges : (n : ℕ) (a b : Block) → size (merge n (a ⧺ b)) ≡ size (settled n a) + size (merge (waits n a) b)
size_merges n a b = omega (arith, size_merge n (a ⧺ b), size_settled n a b, ap skip_records (waits-⧺ n a b), size_merge (waits n a) b)

module _ (σ : Settings) where
  -- the records of a side b from tick t on that ends at x and is filled up to e
  side_early : (t : ℕ) (b : Block) (x : State) (e : ℕ) → x.tick ≡ t + time σ b → x.wait ≡ waits 0 b
      → size (merge 0 (filled σ t b e)) ≡ size (settled 0 b) + size (merge x.wait (fill σ (e - x.tick) x.tick e))
  side_early t b x e h w =
      let z : size (merge x.wait (fill σ (e - x.tick) x.tick e)) ≡ size (merge (waits 0 b) (fill σ (e - (t + time σ b)) (t + time σ b) e)) =
      ap₂ (λ (v u : ℕ). size (merge v (fill σ (e - u) u e))) w h in
      omega (arith, z, size_merges 0 b (fill σ (e - (t + time σ b)) (t + time σ b) e))

  -- and of one that ends there
  side_late : (t : ℕ) (b : Block) (x : State) → x.tick ≡ t + time σ b → x.wait ≡ waits 0 b
      → size (merge 0 (filled σ t b x.tick)) ≡ size (settled 0 b) + skip_records x.wait
  side_late t b x h w =
      let e = x.tick in
      let z : e - e ≡ 0 = omega arith in
      side_early t b x e h w ∙ ap (λ (k : ℕ). size (settled 0 b) + size (merge x.wait (fill σ k e e))) z

-- sides that end at x and y
module _ {σ : Settings} {x y : State} (M : Meeting σ x y) where
  -- the first is filled after the records of both
  pub first_can : {z : State} → z ≡ back_to x x.wait y.records → x.tick < y.tick → Fillable σ z y.tick
  first_can e h = subst (λ (z : State). Fillable σ z y.tick) (sym e) (record {
    laying = record {
      settings = M.one.settings;
      shows = shows_on 0 M.one.shows (omega arith) (omega arith) refl M.one.shows.waited M.two.shows.few;
      within = M.one.within;
    };
    reaches = omega arith;
    upto = M.two.within;
    free = M.free_two;
  })

  pub first_early : {z : State} {n : ℕ} → z ≡ back_to x x.wait y.records → x.tick < y.tick → FillCounted σ z y.tick n → Meets σ x y (met_at y n)
  first_early {z} {n} e h C' = record {
    right = λ s a d z A D.
        let w = A.wait ∙ ap (λ (v : ℕ). waits v a) z in
        record {
          shows = shows_on 0 D.shows (omega arith) (omega arith) refl (omega arith) (omega arith);
          tick = omega (arith, A.tick, D.tick);
          wait = refl;
          records = omega (
            arith,
            C.counts,
            A.records,
            ap (λ (v : ℕ). size (settled v a)) z,
            D.records,
            side_early σ s.tick a x y.tick A.tick w,
            side_late σ s.tick d y D.tick D.wait,
          );
        };
  }
    where
      C : FillCounted σ (back_to x x.wait y.records) y.tick n
      C = subst (λ (z : State). FillCounted σ z y.tick n) e C'

  pub second_early : {n : ℕ} → y.tick ≤ x.tick → FillCounted σ y x.tick n → Meets σ x y (met_at x n)
  second_early h C = record {
    right = λ s a d z A D.
        let w = A.wait ∙ ap (λ (v : ℕ). waits v a) z in
        record {
          shows = shows_on 0 A.shows (omega arith) (omega arith) refl (omega arith) (omega arith);
          tick = omega (arith, A.tick, D.tick);
          wait = refl;
          records = omega (
            arith,
            C.counts,
            A.records,
            ap (λ (v : ℕ). size (settled v a)) z,
            D.records,
            side_early σ s.tick d y x.tick D.tick D.wait,
            side_late σ s.tick a x A.tick w,
          );
        };
  }
