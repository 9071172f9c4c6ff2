-- The whole file: from the commands of tick 0 over the laid block to the last BEAT.
use Prim.Native.Nat.{ℕ, ◌+◌, ◌*◌, ◌-◌, ◌%◌, ◌/◌, ◌≤◌}
use native.Mathlib.{Omega.arith, Nat.zero-mod, Nat.zero-add}
use mathlib.Core.Path.{◌≡◌, refl, ap, ap₂, sym, subst, ◌∙◌}
use mathlib.Core.Bool.{Bool, true, false, cond}
use mathlib.Core.List.{List, ◌++◌, append_assoc}
use lib.{ListN.length, ListN.length-append, Dec.eqb}
use borrow.Author.Tests.{eqb-true, eqb-false, eq-eqb, ne_eqb}
use Rattle.model.specs.declared.Form.TheVariants.{Equalised}
use Rattle.model.specs.declared.Settings.{Settings}
use Rattle.model.specs.Trees.{beat, save, Block, nil, skip, act, ◌⧺◌, size, file_tree}
use Rattle.model.specs.{Times.time, Equalising.waiting, Equalising.merge, Records.over}
use Rattle.model.specs.Layout.{unroll, commands, left, lay, opened, body, last_value, layout, total}
use Rattle.theory.specs.Windows.{Free, round}
use Rattle.laws.proofs.Trees.{⧺-assoc}
use Rattle.theory.proofs.{Times.time-⧺, Windows.window_pos, Windows.commands_0, Windows.free_start}
use Rattle.records.specs.Blocks.{block_bytes, skip_records, skip_bytes, Wrote}
use Rattle.records.proofs.Blocks.{size-⧺, size_waiting, bytes-⧺, waiting_bytes, act_bytes, length_block}
use Rattle.records.proofs.Over.{Part, lent, back, part_first, part_fits, part_lent}
use Rattle.placing.specs.declared.clock.State.{State}
use Rattle.layout.specs.declared.measure.Passage.{Passage}
use Rattle.placing.specs.{Merging.settled, Merging.waits, Placed.bytes_of, Placed.Lays, Placed.tail_bytes}
use Rattle.placing.specs.States.{Layable, Shows, Laying, After, started}
use Rattle.reading.specs.Ranges.{SoundFile}
use Rattle.layout.specs.{Measured.laid, Measured.Entered, Written.BlockFits, Written.BlockLaid, Written.FileFits}
use Rattle.layout.specs.Meetings.{meetings, Holds, BlockMeasured, FileMeasured}
use Rattle.placing.proofs.Settling.{settled-⧺, waits-⧺, merge_settled, Alike, alike_eq, alike_sym, alike_trans, alike_skip}
use Rattle.placing.proofs.{Going.after-⧺, Going.after_alike, Ticking.left_is}
use Rattle.layout.proofs.Noting.{holds_notes, meetings-⧺, few_meetings}
use Rattle.reading.proofs.{Standing.stands_file, Walking.whole_file}

-- TICK 0

-- its commands
abbrev pub opening : Block
opening = act (beat 1) (act (save 0) nil)

module _ {σ : Settings} (L : Layable σ) where
  -- laying out starts there
  pub laying_start : Laying σ started
  laying_start = record {
    settings = L;
    shows = record {
      below = window_pos σ L.fits;
      fewer = L.fits.positive.spaced;
      bound = zero-mod σ.window;
      round = ap (λ (x : ℕ). x % round σ) (omega arith) ∙ zero-mod (round σ);
      waited = omega arith;
      few = omega arith;
    };
    within = omega arith;
  }

  start_alike : Alike σ (skip 0 (commands σ (0 + 0))) opening
  start_alike = alike_trans (alike_skip (commands σ 0)) (alike_eq (commands_0 σ L.fits))

  -- what goes on to the next multiple of H lays no more than the commands
  pub after_opening : {o : State} → After σ (skip 0 (commands σ (0 + 0))) started o → After σ opening started o
  after_opening A = after_alike start_alike A

  opening_bytes : bytes_of started (skip 0 (commands σ (0 + 0))) ≡ block_bytes opening
  opening_bytes = ap block_bytes (start_alike.settles 0)

-- BEHIND THEM

module _ {σ : Settings} (L : Layable σ) {o : State} (A : After σ opening started o) where
  start_tick : o.tick ≡ σ.beat + σ.save
  start_tick = omega (arith, A.tick)

  pub file_entered : {s : List ℕ} → SoundFile Equalised s → o.tick ≤ σ.period → Entered s 0 (length s / 12) σ o
  file_entered {s} S h = record {
    file = whole_file S;
    ready = record { laying = record { settings = L; shows = A.shows; within = h }; free = subst (Free σ 0) (sym start_tick) (free_start σ L.fits) };
  }

  -- the steps up to the last one are the commands and the laid block
  opened_laid : (b : Block) → opened σ (unroll b) ≡ opening ⧺ laid σ b o.tick
  unfolding laid
  opened_laid b = ap (λ (t : ℕ). opening ⧺ lay σ (unroll b) t) (sym start_tick)

  pub opened_lasts : (b : Block) → time σ (opened σ (unroll b)) ≡ o.tick + time σ (laid σ b o.tick)
  opened_lasts b = omega (arith, ap (time σ) (opened_laid b), start_tick)

  after_opened : {r : State} (b : Block) → After σ (laid σ b o.tick) o r → After σ (opened σ (unroll b)) started r
  after_opened {r} b B = subst (λ (c : Block). After σ c started r) (sym (opened_laid b)) (after-⧺ opening (laid σ b o.tick) A B)

  -- and the meetings are those of the laid block
  opened_meetings : (b : Block) → meetings σ (opened σ (unroll b)) 0 ≡ meetings σ (laid σ b o.tick) o.tick
  opened_meetings b =
      ap (λ (c : Block). meetings σ c 0) (opened_laid b)
      ∙ ap (meetings σ (laid σ b o.tick)) (ap (λ (t : ℕ). t + σ.save) (zero-add σ.beat) ∙ sym start_tick)

  pub file_measured : {s old new : List ℕ} {r : Passage} → SoundFile Equalised s → BlockMeasured s 0 (length s / 12) σ o 0 old new r → FileMeasured s σ old new r.state
  file_measured {s} {old} {new} S B =
      let there = stands_file Equalised s S in
      let P = B.passed.right (file_tree s) there in
      let e = opened_lasts (file_tree s) in
      let z = opened_meetings (file_tree s) in
      record {
        passed = record { late = λ l. P.late (omega arith); after = λ l. after_opened (file_tree s) (P.after (omega arith)) };
        noted = λ k l m. subst (λ (ms : List ℕ). Holds ms 0 new) (sym z)
            (holds_notes (B.noted (file_tree s) there (omega arith)).notes k (omega (arith, ap length z)));
      }

-- THE END

-- what waits while a is merged goes before b
merge-⧺ : (n : ℕ) (a b : Block) → merge n (a ⧺ b) ≡ settled n a ⧺ merge (waits n a) b
merge-⧺ n a b =
    merge_settled n (a ⧺ b)
    ∙ ap₂ (λ (c : Block) (m : ℕ). c ⧺ waiting m nil) (settled-⧺ n a b) (waits-⧺ n a b)
    ∙ ⧺-assoc (settled n a) (settled (waits n a) b) (waiting (waits (waits n a) b) nil)
    ∙ ap (λ (c : Block). settled n a ⧺ c) (sym (merge_settled (waits n a) b))

-- SKIPs run from tick t to the next multiple of H, if it is not there
abbrev to_bound : Settings → ℕ → Block
to_bound σ t = cond (eqb (t % σ.window) 0) nil (skip (left σ t) nil)

-- and the last BEAT starts there
abbrev last_beat : Settings → ℕ → Block
last_beat σ t = act (beat (last_value σ t)) nil

module _ (σ : Settings) (b : Block) where
  -- what follows the last step, merged
  abbrev ending : Block
  ending = let c = opened σ (unroll b) in merge (waits 0 c) (to_bound σ (time σ c) ⧺ last_beat σ (time σ (body σ (unroll b))))

  layout_ending : layout σ b ≡ settled 0 (opened σ (unroll b)) ⧺ ending
  unfolding layout
  layout_ending =
      let c = opened σ (unroll b) in
      let x = last_beat σ (time σ (body σ (unroll b))) in
      ap (merge 0) (⧺-assoc c (to_bound σ (time σ c)) x) ∙ merge-⧺ 0 c (to_bound σ (time σ c) ⧺ x)

  -- each meeting is an IF of the result
  pub few_ifs : 3 * length (meetings σ (opened σ (unroll b)) 0) ≤ size (layout σ b)
  unfolding layout
  few_ifs =
      let c = opened σ (unroll b) in
      let t = time σ c in
      let x = last_beat σ (time σ (body σ (unroll b))) in
      omega (
        arith,
        few_meetings σ 0 (body σ (unroll b) ⧺ x) 0,
        ap length (meetings-⧺ σ (body σ (unroll b)) x 0),
        length-append (meetings σ (body σ (unroll b)) 0) (meetings σ x (0 + time σ (body σ (unroll b)))),
        ap length (meetings-⧺ σ c (to_bound σ t) 0),
        length-append (meetings σ c 0) (meetings σ (to_bound σ t) (0 + t)),
      )

  pub opened_total : time σ (opened σ (unroll b)) ≤ total σ b
  unfolding total
  opened_total = let c = opened σ (unroll b) in omega (arith, time-⧺ σ c (to_bound σ (time σ c)))

module _ {σ : Settings} (L : Layable σ) where
  -- the ticks left tell them
  bound_alike : {s : State} → Shows σ s → Alike σ (to_bound σ s.tick) (skip s.ticks_left nil)
  bound_alike {s} S = go (eqb s.ticks_left 0) refl
    where
      go : (o : Bool) → eqb s.ticks_left 0 ≡ o → Alike σ (to_bound σ s.tick) (skip s.ticks_left nil)
      go true e =
          let z = eqb-true s.ticks_left 0 e in
          let m : s.tick % σ.window ≡ 0 = ap (λ (x : ℕ). x % σ.window) (omega arith) ∙ S.bound in
          rw (eq-eqb (s.tick % σ.window) 0 m, z) (alike_sym (alike_skip nil))
      go false e =
          let l = left_is L S (omega (arith, eqb-false s.ticks_left 0 e)) in
          rw (ne_eqb (s.tick % σ.window) 0 (λ z. omega (arith, S.below)), l) (alike_eq refl)

  -- what the state after the last step tells of the whole
  module _ (b : Block) {r : State} (A : After σ (opened σ (unroll b)) started r) where
    abbrev c : Block
    c = opened σ (unroll b)

    bound_here : Alike σ (to_bound σ (time σ c)) (skip r.ticks_left nil)
    bound_here = subst (λ (t : ℕ). Alike σ (to_bound σ t) (skip r.ticks_left nil)) (omega (arith, A.tick)) (bound_alike A.shows)

    body_ends : time σ (body σ (unroll b)) ≡ r.tick + r.ticks_left
    body_ends = omega (arith, time-⧺ σ c (to_bound σ (time σ c)), bound_here.lasts, A.tick)

    pub total_is : total σ b ≡ r.tick + r.ticks_left + σ.beat
    unfolding total
    total_is = omega (arith, body_ends)

    ending_is : ending σ b ≡ waiting (r.wait + r.ticks_left) (last_beat σ (r.tick + r.ticks_left))
    ending_is =
        let n = waits 0 c in
        let t = time σ (body σ (unroll b)) in
        merge-⧺ n (to_bound σ (time σ c)) (last_beat σ t)
        ∙ ap₂ (λ (d : Block) (m : ℕ). d ⧺ merge m (last_beat σ t)) (bound_here.settles n) (bound_here.leaves n)
        ∙ ap₂ (λ (m u : ℕ). waiting (m + r.ticks_left) (last_beat σ u)) (sym A.wait) body_ends

    pub size_is : size (layout σ b) ≡ size (settled 0 c) + skip_records (r.wait + r.ticks_left) + 1
    size_is =
        omega (
          arith,
          ap size (layout_ending σ b),
          size-⧺ (settled 0 c) (ending σ b),
          ap size ending_is,
          size_waiting (r.wait + r.ticks_left) (last_beat σ (r.tick + r.ticks_left)),
        )

    ending_bytes : block_bytes (ending σ b) ≡ tail_bytes σ r
    ending_bytes =
        ap block_bytes ending_is
        ∙ waiting_bytes (r.wait + r.ticks_left) (last_beat σ (r.tick + r.ticks_left))
        ∙ ap (λ (x : List ℕ). skip_bytes (r.wait + r.ticks_left) ++ x) (act_bytes (beat (last_value σ (r.tick + r.ticks_left))))

-- WRITING IT

module _ {s : List ℕ} {σ : Settings} {table out : List ℕ} (F : FileFits s σ table out) where
  abbrev whole : List ℕ
  whole = block_bytes (layout σ (file_tree s))

  -- what is laid after the commands of tick 0 up to the last step, and then the tail
  abbrev middle : Block
  middle = settled 0 (lay σ (unroll (file_tree s)) (σ.beat + σ.save))

  abbrev pub behind : List ℕ
  behind = block_bytes middle ++ block_bytes (ending σ (file_tree s))

  whole_bytes : whole ≡ block_bytes opening ++ behind
  whole_bytes =
      let e = ending σ (file_tree s) in
      ap block_bytes (layout_ending σ (file_tree s))
      ∙ bytes-⧺ (opening ⧺ middle) e
      ∙ ap (λ (x : List ℕ). x ++ block_bytes e) (bytes-⧺ opening middle)
      ∙ append_assoc (block_bytes opening) (block_bytes middle) (block_bytes e)

  -- too few records for a count to stop at its cap
  few_middle : size opening + size middle ≤ 5461
  few_middle =
      let e = ending σ (file_tree s) in
      omega (arith, F.few, ap size (layout_ending σ (file_tree s)), size-⧺ (opening ⧺ middle) e)

  pub start_fits : (Laying σ started) × (length (bytes_of started (skip 0 (commands σ (0 + 0)))) ≤ length out)
  start_fits = (
    laying_start F.settings,
    omega (arith, F.room, ap length whole_bytes, length-append (block_bytes opening) behind, ap length (opening_bytes F.settings)),
  )

  pub start_part : {new : List ℕ} {at : ℕ} → Wrote (bytes_of started (skip 0 (commands σ (0 + 0)))) out new at → Part whole behind out new at
  start_part {new} {at} W =
      let X = subst (λ (bs : List ℕ). Wrote bs out new at) (opening_bytes F.settings) W in
      subst (λ (w : List ℕ). Part w behind out new at) (sym whole_bytes)
      (part_first (block_bytes opening) (subst (λ (w : List ℕ). length w ≤ length out) whole_bytes F.room) X.laid X.count)

  module _ {o : State} (A : After σ opening started o) {new : List ℕ} {at : ℕ} (P : Part whole behind out new at) where
    middle_is : settled o.wait (laid σ (file_tree s) o.tick) ≡ middle
    unfolding laid
    middle_is = ap₂ (λ (n t : ℕ). settled n (lay σ (unroll (file_tree s)) t)) A.wait (start_tick F.settings A)

    in_time : o.tick + time σ (laid σ (file_tree s) o.tick) ≤ σ.period
    in_time = omega (arith, F.in_time, opened_total σ (file_tree s), opened_lasts F.settings A (file_tree s))

    pub block_fits : BlockFits s 0 (length s / 12) σ o 0 table (lent new at)
    unfolding file_entered
    block_fits = record {
      entered = file_entered F.settings A F.sound (omega (arith, in_time));
      fits = record {
        within = in_time;
        room = record {
          few = omega (arith, A.records, ap size middle_is, few_middle);
          room = omega (arith, ap (λ (c : Block). length (block_bytes c)) middle_is, part_fits (block_bytes middle) (block_bytes (ending σ (file_tree s))) P);
        };
      };
      holds = subst (λ (ms : List ℕ). Holds ms 0 table) (opened_meetings F.settings A (file_tree s)) F.holds;
    }

    module _ {ys : List ℕ} {r : Passage} (B : BlockLaid s 0 (length s / 12) σ o 0 (lent new at) ys r) where
      lays : Lays σ (laid σ (file_tree s) o.tick) o (lent new at) ys r.state
      lays = (B.right (file_tree s) (stands_file Equalised s F.sound)).lays

      counts : r.state.records ≡ o.records + size middle
      counts = omega (arith, lays.after.records, A.records, ap size middle_is, few_middle)

      pub counted : (o.records ≤ r.state.records) × (r.state.records ≤ 5462)
      counted = omega (arith, counts, lays.after.records)

      ended : After σ (opened σ (unroll (file_tree s))) started r.state
      ended = after_opened F.settings A (file_tree s) lays.after

      pub tail_part : {n : ℕ} → n ≡ 12 * (r.state.records - o.records) → Part whole (tail_bytes σ r.state) out (back new at ys) (at + n)
      tail_part {n} e =
          subst (λ (x : List ℕ). Part whole x out (back new at ys) (at + n)) (ending_bytes F.settings (file_tree s) ended)
          (part_lent (block_bytes middle) P (lays.wrote ∙ ap (λ (c : Block). over (block_bytes c) (lent new at)) middle_is) (omega (arith, counts, length_block middle)))

      pub tail_laying : (Laying σ r.state) × (r.state.tick + r.state.ticks_left + σ.beat ≤ σ.period)
      tail_laying = (record { settings = F.settings; shows = ended.shows; within = omega (arith, in_time, lays.after.tick) }, omega (arith, F.in_time, total_is F.settings (file_tree s) ended))
