-- Writing a side of an IF: its block, SKIPs up to the tick where the sides meet, and the record that closes it.
use Prim.Native.Nat.{ℕ, ◌+◌, ◌-◌, ◌≤◌}
use native.Mathlib.Omega.{arith}
use mathlib.Core.Path.{◌≡◌, ap, ap₂, sym, subst, ◌∙◌}
use mathlib.Core.List.{List, ◌++◌, append_assoc}
use lib.ListN.{length, length-append}
use Rattle.model.specs.declared.Settings.{Settings}
use Rattle.model.specs.{Records.Rec, Records.record_bytes, Records.over, Trees.Block, Trees.◌⧺◌, Trees.size}
use Rattle.model.specs.{Times.time, Equalising.merge, Layout.fill, Layout.filled}
use Rattle.theory.proofs.Times.{time-⧺}
use Rattle.records.specs.Blocks.{block_bytes, skip_bytes}
use Rattle.records.proofs.Blocks.{length_block}
use Rattle.records.proofs.Over.{Part, lent, back, part_first, part_fits_last, part_at, part_length, part_last}
use Rattle.placing.specs.declared.clock.State.{State}
use Rattle.layout.specs.declared.measure.Passage.{Passage}
use Rattle.placing.specs.{Merging.settled, Merging.waits, States.After}
use Rattle.layout.specs.Measured.{laid}
use Rattle.placing.specs.Placed.{bytes_of, closing_bytes, EndFits, Closed, EndLaid}
use Rattle.layout.specs.Written.{BlockFits, BlockLaid, LaysTo, side_bytes, SideFits, SideLays, SideLaid}
use Rattle.placing.proofs.{Settling.waits-⧺, Settling.bytes_settled, Settling.bytes_merge, Writing.laid_bytes}
use Rattle.reading.proofs.Walking.{every}
use Rattle.layout.proofs.{Meeting.size_merges, Passing.laying_on}

-- a side that is laid as b, after w ticks of SKIP, filled by c and closed by x: what is settled of b, and then its end
abbrev end_bytes : ℕ → Block → Block → Rec → List ℕ
end_bytes w b c x = block_bytes (settled (waits w b) c) ++ (skip_bytes (waits (waits w b) c) ++ record_bytes x)

side_bytes_is : (w : ℕ) (b c : Block) (x : Rec) → block_bytes (merge w (b ⧺ c)) ++ record_bytes x ≡ block_bytes (settled w b) ++ end_bytes w b c x
side_bytes_is w b c x =
    ap (λ (bs : List ℕ). bs ++ record_bytes x) (bytes_merge w (b ⧺ c) ∙ ap₂ ◌++◌ (bytes_settled w b c) (ap skip_bytes (waits-⧺ w b c))) ∙ simp append_assoc

module _ {s : List ℕ} {i to : ℕ} {σ : Settings} {at : State} {e : ℕ} {x : Rec} {k : ℕ} {table old : List ℕ} (F : SideFits s i to σ at e x k table old) where
  abbrev b : Block
  b = laid σ F.entered.file.block at.tick

  abbrev c : Block
  c = fill σ (e - (at.tick + time σ b)) (at.tick + time σ b) e

  split : side_bytes σ at F.entered.file.block e x ≡ bytes_of at b ++ end_bytes at.wait b c x
  split = side_bytes_is at.wait b c x

  room : length (bytes_of at b ++ end_bytes at.wait b c x) ≤ length old
  room = subst (λ (bs : List ℕ). length bs ≤ length old) split F.room

  sizes : size (merge at.wait (filled σ at.tick b e)) ≡ size (settled at.wait b) + size (merge (waits at.wait b) c)
  sizes = size_merges at.wait b c

  pub side_fits : BlockFits s i to σ at k table old
  side_fits = record {
    entered = F.entered;
    fits = record {
      within = omega (arith, F.reaches, F.upto);
      room = record { few = omega (arith, F.few, sizes); room = omega (arith, room, length-append (bytes_of at b) (end_bytes at.wait b c x)) };
    };
    holds = F.holds;
  }

  module _ {new : List ℕ} {r : Passage} (B : BlockLaid s i to σ at k old new r) where
    laid_block : LaysTo σ b (i + size F.entered.file.block) k at old new r
    laid_block = B.right F.entered.file.block F.entered.file.stands

    after : After σ b at r.state
    after = laid_block.lays.after

    counts : r.state.records ≡ at.records + size (settled at.wait b)
    counts = omega (arith, after.records, F.few, sizes)

    pub side_upto : (at.records ≤ r.state.records) × (r.state.records ≤ 5462)
    side_upto = (omega (arith, counts), omega (arith, counts, F.few, sizes))

    -- the next byte is at n
    module _ {n : ℕ} (h : n ≡ laid_bytes at r.state) where
      part : Part (side_bytes σ at F.entered.file.block e x) (end_bytes at.wait b c x) old new n
      part =
          subst (λ (bs : List ℕ). Part bs (end_bytes at.wait b c x) old new n) (sym split)
          (part_first (bytes_of at b) room laid_block.lays.wrote (omega (arith, h, counts, length_block (settled at.wait b))))

      pub side_at : n ≤ length new
      side_at = part_at part

      pub side_long : length new ≡ length old
      side_long = part_length part

      -- the end of the side from r on is its end by the definition
      ends : closing_bytes σ r.state e x ≡ end_bytes at.wait b c x
      ends =
          ap₂ (λ (t m : ℕ). block_bytes (settled m (fill σ (e - t) t e)) ++ (skip_bytes (waits m (fill σ (e - t) t e)) ++ record_bytes x)) after.tick after.wait

      filling : size (merge r.state.wait (fill σ (e - r.state.tick) r.state.tick e)) ≡ size (merge (waits at.wait b) c)
      filling = ap₂ (λ (t m : ℕ). size (merge m (fill σ (e - t) t e))) after.tick after.wait

      lasts : time σ (fill σ (e - r.state.tick) r.state.tick e) ≡ time σ c
      lasts = ap (λ (t : ℕ). time σ (fill σ (e - t) t e)) after.tick

      pub end_fits : EndFits σ r.state e x (lent new n)
      end_fits = record {
        can = record {
          laying = laying_on F.entered.ready.laying after (omega (arith, after.tick, F.reaches, F.upto));
          reaches = omega (arith, after.tick, F.reaches);
          upto = F.upto;
          free = F.free;
        };
        few = omega (arith, filling, counts, F.few, sizes);
        room = subst (λ (bs : List ℕ). length bs ≤ length (lent new n)) (sym ends) (part_fits_last part);
      }

      module _ {ys : List ℕ} {q : State} (E : EndLaid σ r.state e x (lent new n) ys q) where
        closed : Closed σ (filled σ at.tick b e) at q
        closed = record {
          shows = E.closed.shows;
          tick = omega (arith, E.closed.tick, after.tick, lasts, time-⧺ σ b c);
          wait = E.closed.wait;
          records = omega (arith, E.closed.records, counts, filling, sizes);
        }

        pub side_laid : SideLaid s i to σ at e x k old (back new n ys) (record { state = q; next = r.next; ifs = r.ifs })
        side_laid = record {
          right = every (λ (z : Block). SideLays σ z e x (i + size z) k at old (back new n ys) (record { state = q; next = r.next; ifs = r.ifs })) F.entered.file
              (record {
                closed = closed;
                wrote = part_last part (E.wrote ∙ ap (λ (bs : List ℕ). over bs (lent new n)) ends);
                goes = laid_block.goes;
                ifs = laid_block.ifs;
              });
        }
