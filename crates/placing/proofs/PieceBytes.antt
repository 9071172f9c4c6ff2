-- The bytes of the pieces of a laid file, and what is left to lay after each part of a piece.
use Prim.Native.Nat.{ℕ, ◌+◌, ◌≤◌, ◌<◌}
use native.Mathlib.Omega.{arith}
use mathlib.Core.Path.{◌≡◌, refl, ap, subst, ◌∙◌}
use mathlib.Core.Bool.{Bool, true, false, cond}
use mathlib.Core.List.{List, [], ◌++◌}
use lib.{Dec.eqb, ListN.length, ListN.length-append}
use borrow.Author.Tests.{eq-eqb, ne_eqb}
use Rattle.model.specs.declared.Settings.{Settings}
use Rattle.model.specs.Records.{Rec, rec, record_bytes, bytes, BEAT, over}
use Rattle.model.specs.Trees.{beat, save, Block, nil, skip, act, act_rec, size, linearise}
use Rattle.model.specs.{Equalising.merge, Layout.commands, Layout.before, Times.longest}
use Rattle.records.specs.Blocks.{block_bytes, skip_records, skip_bytes, Wrote}
use Rattle.records.proofs.Blocks.{length_block, waiting_bytes}
use Rattle.records.proofs.Over.{Part, lent, back, part_first, part_end, part_last}
use Rattle.placing.specs.declared.clock.State.{State}
use Rattle.placing.specs.{Merging.settled, Merging.waits, States.Laying, States.After, States.back_to, Placed.bytes_of, Placed.Lays, Placed.Closed}
use Rattle.placing.proofs.{Settling.size_merge, Moves.shows_on, Writing.laid_bytes}
use Rattle.placing.proofs.Ticking.{commands_due, before_waits, before_none}

-- COMMANDS

-- the SAVE that is due in so many windows, if that is now
abbrev pub save_bytes : ℕ → List ℕ
save_bytes v = cond (eqb v 0) (record_bytes (act_rec (save 0))) []

-- what leads to the next multiple of H, and its commands
abbrev pub due_bytes : Settings → State → List ℕ
due_bytes σ s = bytes_of s (skip s.ticks_left (commands σ (s.tick + s.ticks_left)))

due_save : (w : ℕ) (o : Bool)
    → block_bytes (settled w (act (beat 1) (cond o (act (save 0) nil) nil)))
    ≡ skip_bytes w ++ (record_bytes (act_rec (beat 1)) ++ cond o (record_bytes (act_rec (save 0))) [])
unfolding block_bytes linearise bytes
due_save w true = waiting_bytes w (act (beat 1) (act (save 0) nil))
due_save w false = waiting_bytes w (act (beat 1) nil)

module _ {σ : Settings} {s : State} (y : Laying σ s) where
  due_split : due_bytes σ s ≡ skip_bytes (s.wait + s.ticks_left) ++ (record_bytes (act_rec (beat 1)) ++ save_bytes s.windows_left)
  due_split =
      ap (λ (c : Block). block_bytes (settled (s.wait + s.ticks_left) c)) (commands_due y.settings y.shows)
      ∙ due_save (s.wait + s.ticks_left) (eqb s.windows_left 0)

  module _ (old : List ℕ) (room : length (due_bytes σ s) ≤ length old) where
    pub due_fits : length (skip_bytes (s.wait + s.ticks_left)) ≤ length old
    due_fits = omega (arith, ap length due_split, length-append (skip_bytes (s.wait + s.ticks_left)) (record_bytes (act_rec (beat 1)) ++ save_bytes s.windows_left))

    pub due_skipped : {new : List ℕ} {n : ℕ} → Wrote (skip_bytes (s.wait + s.ticks_left)) old new n
        → Part (due_bytes σ s) (record_bytes (act_rec (beat 1)) ++ save_bytes s.windows_left) old new n
    due_skipped W = rw due_split (part_first (skip_bytes (s.wait + s.ticks_left)) (rw due_split at room) W.laid W.count)

-- no SAVE is due, or one is
module _ {w old new : List ℕ} {at : ℕ} (v : ℕ) (P : Part w (save_bytes v) old new at) where
  pub save_none : 0 < v → Wrote w old new at
  save_none l =
      let e : save_bytes v ≡ [] = rw (ne_eqb v 0 (λ z. omega arith)) in
      let p = part_end (rw e at P) in
      record { laid = p.0; count = p.1 }

  pub save_due_is : v ≤ 0 → Part w (record_bytes (act_rec (save 0))) old new at
  save_due_is l = let e : save_bytes v ≡ record_bytes (act_rec (save 0)) = rw (eq-eqb v 0 (omega arith)) in rw e at P

-- WHAT STANDS BEFORE A STEP

module _ {σ : Settings} {s : State} (y : Laying σ s) (d : ℕ) where
  module _ (l : s.ticks_left < d) (h : d ≤ longest σ) where
    due_same : due_bytes σ s ≡ bytes_of s (before σ s.tick d)
    due_same = ap block_bytes ((before_waits y.settings y.shows d l h).settles s.wait)

    pub before_fits : (old : List ℕ) → length (bytes_of s (before σ s.tick d)) ≤ length old → length (due_bytes σ s) ≤ length old
    before_fits old room = omega (arith, ap length due_same)

    pub before_written : {old new : List ℕ} {n : ℕ} → Wrote (due_bytes σ s) old new n → Wrote (bytes_of s (before σ s.tick d)) old new n
    before_written {old} {new} {n} W = subst (λ (bs : List ℕ). Wrote bs old new n) due_same W

  pub before_nothing : 1 ≤ d → d ≤ s.ticks_left → (old : List ℕ) → Wrote (bytes_of s (before σ s.tick d)) old old 0
  unfolding block_bytes linearise bytes
  before_nothing p l old = rw (before_none y.settings y.shows d p l) (record { laid = refl; count = refl })

-- A PIECE, WHAT WAITS AFTER IT, AND A RECORD

abbrev pub ended_bytes : State → Block → Rec → List ℕ
ended_bytes s c x = bytes_of s c ++ (skip_bytes (waits s.wait c) ++ record_bytes x)

module _ (s : State) (c : Block) (x : Rec) (old : List ℕ) (room : length (ended_bytes s c x) ≤ length old) where
  pub piece_fits : length (bytes_of s c) ≤ length old
  piece_fits = omega (arith, length-append (bytes_of s c) (skip_bytes (waits s.wait c) ++ record_bytes x))

  pub piece_laid : {new : List ℕ} {n w : ℕ} → Wrote (bytes_of s c) old new n → w ≡ waits s.wait c
      → Part (ended_bytes s c x) (skip_bytes w ++ record_bytes x) old new n
  piece_laid W e = rw e (part_first (bytes_of s c) room W.laid W.count)

-- the bytes of a piece are counted by its records
pub lays_wrote : {σ : Settings} {s r : State} {n : ℕ} (c : Block) {old new : List ℕ} → Lays σ c s old new r → s.records + size (settled s.wait c) ≤ 5461
    → n ≡ laid_bytes s r → Wrote (bytes_of s c) old new n
lays_wrote {s = s} c L h e = record { laid = L.wrote; count = omega (arith, L.after.records, length_block (settled s.wait c)) }

-- what waits after a piece is counted with it
pub settled_few : (m n : ℕ) (c : Block) → m + size (merge n c) ≤ 5461 → m + size (settled n c) ≤ 5461
settled_few m n c h = omega (arith, size_merge n c)

-- and the record that closes it
module _ {σ : Settings} {s f : State} (c : Block) (A : After σ c s f) (few : s.records + size (merge s.wait c) ≤ 5461) {k : ℕ} (e : k ≡ skip_records f.wait) where
  closing_counts : f.records + k ≡ s.records + size (merge s.wait c)
  closing_counts = omega (arith, A.records, size_merge s.wait c, e ∙ ap skip_records A.wait)

  pub closing_few : f.records + k ≤ 5461
  closing_few = omega (arith, closing_counts)

  pub closing : Closed σ c s (back_to f 0 (f.records + k + 1))
  closing = record {
    shows = shows_on 0 A.shows (omega arith) (omega arith) refl (omega arith) (omega (arith, closing_few));
    tick = A.tick;
    wait = refl;
    records = omega (arith, closing_counts);
  }

-- THE TAIL

-- the last BEAT is all that is left
pub beat_laid : {w old new ys : List ℕ} {at v x : ℕ} → Part w (record_bytes (act_rec (beat x))) old new at → v ≡ x
    → ys ≡ over (record_bytes (rec BEAT 0 0 0 v 0)) (lent new at) → back new at ys ≡ over w old
beat_laid {new = new} {at = at} P e y = part_last P (y ∙ ap (λ (u : ℕ). over (record_bytes (act_rec (beat u))) (lent new at)) e)
