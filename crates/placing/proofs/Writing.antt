-- Writing one piece after another: what is laid over the buffer, and where the state and the next byte stand.
use Prim.Native.Nat.{ℕ, ◌+◌, ◌*◌, ◌-◌, ◌≤◌}
use native.Mathlib.Omega.{arith}
use mathlib.Core.Path.{◌≡◌, refl, ap, sym, subst, ◌∙◌}
use mathlib.Core.List.{List, ◌++◌}
use lib.ListN.{length, length-append}
use Rattle.model.specs.declared.Settings.{Settings}
use Rattle.model.specs.Records.{bytes}
use Rattle.model.specs.Trees.{Block, nil, ◌⧺◌, size, linearise}
use Rattle.laws.proofs.Trees.{⧺-nil, ⧺-assoc}
use Rattle.records.specs.Blocks.{block_bytes}
use Rattle.records.proofs.Blocks.{length_block}
use Rattle.records.proofs.Over.{Part, lent, back, part_start, part_first, part_at, part_fits, part_lent, part_end}
use Rattle.placing.specs.declared.clock.State.{State}
use Rattle.placing.specs.{Merging.settled, Merging.waits, States.Shows, States.After}
use Rattle.placing.specs.Placed.{bytes_of, Room, Lays}
use Rattle.placing.proofs.Settling.{bytes_settled, size_settled, Alike, alike_eq, alike_sym, alike_trans, alike-⧺}
use Rattle.placing.proofs.Going.{after_nil, after-⧺, after_alike}

-- the bytes laid from one state to another
abbrev pub laid_bytes : State → State → ℕ
laid_bytes from s = 12 * (s.records - from.records)

-- of `whole`, laid from `from` on, all but `rest` is laid over old, and the state is s
pub record Writing (σ : Settings) (whole rest : Block) (from s : State) (old new : List ℕ) : Type 0 where
  pub done : Block
  pub same : Alike σ (done ⧺ rest) whole
  pub after : After σ done from s
  pub room : Room whole from old
  pub part : Part (bytes_of from whole) (bytes_of s rest) old new (laid_bytes from s)

module _ {σ : Settings} {whole : Block} {from : State} {old : List ℕ} where
  pub writing_start : Shows σ from → Room whole from old → Writing σ whole whole from from old old
  writing_start S R = record {
    done = nil;
    same = alike_eq refl;
    after = after_nil S;
    room = R;
    part = subst (Part (bytes_of from whole) (bytes_of from whole) old old) zero (part_start (bytes_of from whole) old R.room);
  }
    where
      zero : 0 ≡ laid_bytes from from
      zero = omega arith

  module _ {rest : Block} {s : State} {new : List ℕ} (W : Writing σ whole rest from s old new) where
    -- nothing is left out of the count
    sizes : size (settled from.wait whole) ≡ size (settled from.wait W.done) + size (settled s.wait rest)
    sizes =
        ap size (sym (W.same.settles from.wait))
        ∙ size_settled from.wait W.done rest
        ∙ ap (λ (n : ℕ). size (settled from.wait W.done) + size (settled n rest)) (sym W.after.wait)

    pub writing_counts : s.records ≡ from.records + size (settled from.wait W.done)
    writing_counts = omega (arith, W.after.records, sizes, W.room.few)

    -- what `written` asks for
    pub writing_upto : (from.records ≤ s.records) × (s.records ≤ 5462)
    writing_upto = (omega (arith, writing_counts), omega (arith, writing_counts, sizes, W.room.few))

    pub writing_at : laid_bytes from s ≤ length new
    writing_at = part_at W.part

    pub writing_same : {other : Block} → Alike σ rest other → Writing σ whole other from s old new
    writing_same {other} e = record {
      done = W.done;
      same = alike_trans (alike-⧺ {a = W.done} {b = W.done} other rest (alike_eq refl) (alike_sym e)) W.same;
      after = W.after;
      room = W.room;
      part = subst (λ (b : Block). Part (bytes_of from whole) (block_bytes b) old new (laid_bytes from s)) (e.settles s.wait) W.part;
    }

  -- the next piece is c
  module _ (c rest : Block) {s : State} {new : List ℕ} (W : Writing σ whole (c ⧺ rest) from s old new) where
    pub writing_room : Room c s (lent new (laid_bytes from s))
    writing_room = record {
      few = omega (arith, sizes W, writing_counts W, W.room.few, size_settled s.wait c rest);
      room = part_fits (bytes_of s c) (block_bytes (settled (waits s.wait c) rest)) (rw (bytes_settled s.wait c rest) at W.part);
    }

    module _ {ys : List ℕ} {r : State} (L : Lays σ c s (lent new (laid_bytes from s)) ys r) where
      pub writing_next : Writing σ whole rest from r old (back new (laid_bytes from s) ys)
      writing_next = record {
        done = W.done ⧺ c;
        same = alike_trans (alike_eq (⧺-assoc W.done c rest)) W.same;
        after = after-⧺ W.done c W.after L.after;
        room = W.room;
        part = subst (Part (bytes_of from whole) (bytes_of r rest) old (back new (laid_bytes from s) ys)) on
            (part_lent (bytes_of s c) split L.wrote refl);
      }
        where
          split : Part (bytes_of from whole) (bytes_of s c ++ bytes_of r rest) old new (laid_bytes from s)
          split =
              subst (λ (bs : List ℕ). Part (bytes_of from whole) bs old new (laid_bytes from s))
              (bytes_settled s.wait c rest ∙ ap (λ (n : ℕ). bytes_of s c ++ block_bytes (settled n rest)) (sym L.after.wait)) W.part

          on : laid_bytes from s + length (bytes_of s c) ≡ laid_bytes from r
          on = omega (arith, length_block (settled s.wait c), L.after.records, writing_counts W, sizes W, W.room.few, size_settled s.wait c rest)

-- the first piece is c, over the whole buffer
module _ (c rest : Block) {from : State} {old : List ℕ} (R : Room (c ⧺ rest) from old) where
  bytes_first : bytes_of from (c ⧺ rest) ≡ bytes_of from c ++ block_bytes (settled (waits from.wait c) rest)
  bytes_first = bytes_settled from.wait c rest

  pub first_room : Room c from old
  first_room = record {
    few = omega (arith, R.few, size_settled from.wait c rest);
    room = omega (arith, R.room, ap length bytes_first, length-append (bytes_of from c) (block_bytes (settled (waits from.wait c) rest)));
  }

  pub writing_first : {σ : Settings} {new : List ℕ} {r : State} → Lays σ c from old new r → Writing σ (c ⧺ rest) rest from r old new
  writing_first {σ} {new} {r} L = record {
    done = c;
    same = alike_eq refl;
    after = L.after;
    room = R;
    part = subst (λ (bs : List ℕ). Part bs (bytes_of r rest) old new (laid_bytes from r)) (sym all)
        (part_first (bytes_of from c) (subst (λ (bs : List ℕ). length bs ≤ length old) all R.room) L.wrote
        (omega (arith, L.after.records, R.few, size_settled from.wait c rest, length_block (settled from.wait c))));
  }
    where
      all : bytes_of from (c ⧺ rest) ≡ bytes_of from c ++ bytes_of r rest
      all = bytes_first ∙ ap (λ (n : ℕ). bytes_of from c ++ block_bytes (settled n rest)) (sym L.after.wait)

-- all is laid
pub writing_end : {σ : Settings} {whole : Block} {from s : State} {old new : List ℕ} → Writing σ whole nil from s old new → Lays σ whole from old new s
unfolding block_bytes linearise bytes
writing_end W = record { after = after_alike (alike_trans (alike_eq (sym (⧺-nil W.done))) W.same) W.after; wrote = (part_end W.part).0 }
