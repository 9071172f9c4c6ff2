-- From the settings and the file that were read, where laying it out ends and what was written, to the reply of the call.
use Prim.Native.Nat.{ℕ, ◌+◌, ◌*◌, ◌≤◌, ◌<◌}
use native.Mathlib.Omega.{arith}
use mathlib.Core.Path.{◌≡◌, refl, ap, ap₂, sym, subst, ◌∙◌}
use mathlib.Core.Bool.{Bool, true, false, or-true}
use mathlib.Core.List.{List, [], ◌∷◌}
use lib.{ListN.length, Dec.ltb}
use borrow.Author.Tests.{ltb-true, ltb-false, lt-ltb, le-ltb}
use Rattle.model.specs.declared.{Settings.Settings, Refusal.Refusal, LaidOut.LaidOut}
use Rattle.model.specs.declared.Form.TheVariants.{Equalised}
use Rattle.model.specs.{Records.bytes, Records.over, Times.time, Times.longest, Settings.settings_of, Placement.Positive}
use Rattle.model.specs.Trees.{Block, size, linearise, file_tree}
use Rattle.model.specs.Layout.{unroll, opened, layout, total}
use Rattle.model.specs.Answers.{Verdict, finished, refusal, laid_out, kept}
use Rattle.model.specs.Replies.{turn_down, short_window, no_room, lay_out_rows, laid_tree, lay_out_reply, lay_out_out}
use Rattle.theory.proofs.{Accepted.in_range, Accepted.fits, Accepted.room_left, Laid.total_longer}
use Rattle.std.specs.Option.{ok_or}
use Rattle.std.specs.Prelude.{Option, None, Some, Result, Ok, Err}
use Rattle.records.specs.Blocks.{block_bytes, skip_records}
use Rattle.records.proofs.Blocks.{one_skip, length_block, above_all}
use Rattle.reading.specs.{Answers.Reads, Ranges.SoundFile}
use Rattle.reading.proofs.{Entry.read_settings, Entry.read_sound, Standing.stands_file}
use Rattle.placing.specs.declared.clock.State.{State}
use Rattle.placing.specs.States.{Layable, After, started}
use Rattle.layout.specs.{Measured.FilePassed, Meetings.FileMeasured, Clocked.FileClocked, Written.FileFits, Answers.InRange, Answers.LaysOutSound}
use Rattle.layout.proofs.Whole.{few_ifs, opened_total, total_is, size_is}

-- A FILE THAT WAS READ

-- the first row that refuses decides, and a refusal keeps the buffer
turned : (file : List ℕ) (σ : Settings) (old : List ℕ) (x : Refusal) → refusal x ≡ lay_out_rows σ (file_tree file) (length old) → LaysOutSound file σ old old (Err x)
turned file σ old x e = record { reply = e; leaves = ap (λ (v : Verdict). kept v (over (bytes (linearise (layout σ (file_tree file)))) old) old) e }

pub window_refused : (file : List ℕ) (σ : Settings) (old : List ℕ) → short_window σ ≡ true → LaysOutSound file σ old old (Err Refusal.ShortWindow)
window_refused file σ old h = turned file σ old Refusal.ShortWindow (rw h)

wide_window : {σ : Settings} → Layable σ → short_window σ ≡ false
wide_window {σ} L = le-ltb σ.window (σ.beat + σ.save + longest σ) L.fits.wide

pub layable : {σ : Settings} → InRange σ → short_window σ ≡ false → Layable σ
layable {σ} I h = record { fits = fits σ I.positive h; narrow = I.narrow; short = I.short }

-- the steps up to the last one, or the ticks that were counted, are above P: so is the total, and row 8 refuses
module _ {file : List ℕ} {σ : Settings} (L : Layable σ) where
  total_over : (old : List ℕ) → σ.period < total σ (file_tree file) → LaysOutSound file σ old old (Err Refusal.OverPeriod)
  total_over old h =
      turned file σ old Refusal.OverPeriod
      (sym (rw (wide_window L, lt-ltb σ.period (total σ (file_tree file)) h, or-true (ltb σ.period (time σ (file_tree file))))))

  pub given_up : (old : List ℕ) → σ.period < time σ (opened σ (unroll (file_tree file))) → LaysOutSound file σ old old (Err Refusal.OverPeriod)
  given_up old h = total_over old (omega (arith, opened_total σ (file_tree file)))

  -- measuring was given up, and so is the call
  pub passed_on : (old none table : List ℕ) (r : Option State) {q : Result State Refusal} {x : Refusal} → FileClocked file σ none table r
      → q ≡ ok_or r Refusal.OverPeriod → q ≡ Err x → LaysOutSound file σ old old (Err x)
  passed_on old none table None {x = x} F e f =
      let z : x ≡ Refusal.OverPeriod = cc in subst (λ (y : Refusal). LaysOutSound file σ old old (Err y)) (sym z) (given_up old F)
  passed_on old none table (Some s) F e f = let z : ◌≡◌ {A = ℕ} 0 1 = cc in absurd (omega arith)

  module _ {r : State} (F : FilePassed file σ r) where
    late : σ.period < r.tick + r.ticks_left + σ.beat → σ.period < total σ (file_tree file)
    late h = go (ltb σ.period t) refl
      where
        t : ℕ
        t = time σ (opened σ (unroll (file_tree file)))

        go : (o : Bool) → ltb σ.period t ≡ o → σ.period < total σ (file_tree file)
        go true e = omega (arith, opened_total σ (file_tree file), ltb-true σ.period t e)
        go false e = omega (arith, total_is L (file_tree file) (F.after (ltb-false σ.period t e)))

    pub over_period : (old : List ℕ) → σ.period < r.tick + r.ticks_left + σ.beat → LaysOutSound file σ old old (Err Refusal.OverPeriod)
    over_period old h = total_over old (late h)

-- or it was not
pub measured_as : {file : List ℕ} {σ : Settings} (r : Option State) {q : Result State Refusal} {s : State} {none table : List ℕ} → FileClocked file σ none table r
    → q ≡ ok_or r Refusal.OverPeriod → q ≡ Ok s → FileMeasured file σ none table s
measured_as None F e f = let z : ◌≡◌ {A = ℕ} 0 1 = cc in absurd (omega arith)
measured_as {file} {σ} (Some t) {s = s} {none} {table} F e f = let z : t ≡ s = cc in subst (FileMeasured file σ none table) z F

-- they are not: the file is laid up to r, and m records of SKIP follow
pub record InTime (file : List ℕ) (σ : Settings) (r : State) (m : ℕ) : Type 0 where
  pub sound : SoundFile Equalised file
  pub settings : Layable σ
  pub passed : FilePassed file σ r
  pub short : r.tick + r.ticks_left + σ.beat ≤ σ.period
  pub skips : m ≡ skip_records (r.wait + r.ticks_left)

module _ {file : List ℕ} {σ : Settings} {r : State} {m : ℕ} (T : InTime file σ r m) where
  abbrev tree : Block
  tree = file_tree file

  abbrev result : Block
  result = layout σ tree

  ended : After σ (opened σ (unroll tree)) started r
  ended = go (ltb σ.period t) refl
    where
      t : ℕ
      t = time σ (opened σ (unroll tree))

      go : (o : Bool) → ltb σ.period t ≡ o → After σ (opened σ (unroll tree)) started r
      go true e = let l = T.passed.late (ltb-true σ.period t e) in absurd (omega (arith, T.short))
      go false e = T.passed.after (ltb-false σ.period t e)

  totals : total σ tree ≡ r.tick + r.ticks_left + σ.beat
  totals = total_is T.settings tree ended

  -- row 9 decides
  timed : (room : ℕ) → lay_out_rows σ tree room ≡ turn_down 9 (no_room room (size result)) (finished (12 * size result ∷ total σ tree ∷ []))
  timed room =
      let l = total_longer σ tree (stands_file Equalised file T.sound).fills.of_form in
      let h : total σ tree ≤ σ.period = omega (arith, totals, T.short) in
      rw (wide_window T.settings, le-ltb σ.period (time σ tree) (omega arith), le-ltb σ.period (total σ tree) h)

  -- the records that were counted: those of the result, or both are more than a file can have
  abbrev n : ℕ
  n = r.records + m + 1

  pub few_counted : n ≤ 5464
  few_counted = omega (arith, ended.shows.few, T.skips, one_skip (r.wait + r.ticks_left))

  counts : n ≤ 5461 → size result ≡ n
  counts l = omega (arith, size_is T.settings tree ended, ended.records, T.skips)

  same_room : (room : ℕ) → no_room room (size result) ≡ no_room room n
  same_room room = go (ltb 5461 n) refl
    where
      go : (o : Bool) → ltb 5461 n ≡ o → no_room room (size result) ≡ no_room room n
      go true x =
          let l = ltb-true 5461 n x in
          above_all room (size result) (omega (arith, size_is T.settings tree ended, ended.records, T.skips)) ∙ sym (above_all room n l)
      go false x = ap (no_room room) (counts (ltb-false 5461 n x))

  pub room_refused : (old : List ℕ) → no_room (length old) n ≡ true → LaysOutSound file σ old old (Err Refusal.NoRoom)
  room_refused old x = turned file σ old Refusal.NoRoom (sym (timed (length old) ∙ rw (same_room (length old), x)))

  module _ (old : List ℕ) (x : no_room (length old) n ≡ false) where
    counted : size result ≡ n
    counted = counts (room_left (length old) n x).few

    pub has_room : {none table : List ℕ} → length none ≡ 1821 → FileMeasured file σ none table r → FileFits file σ table old
    has_room e M = record {
      sound = T.sound;
      settings = T.settings;
      in_time = omega (arith, totals, T.short);
      few = omega (arith, counted, (room_left (length old) n x).few);
      room = omega (arith, length_block result, counted, (room_left (length old) n x).fits_buffer);
      holds = M.noted e (omega (arith, ended.tick, T.short)) (omega (arith, few_ifs σ tree, counted, (room_left (length old) n x).few));
    }

    replies : finished (12 * n ∷ (r.tick + r.ticks_left + σ.beat) ∷ []) ≡ lay_out_rows σ tree (length old)
    replies = ap₂ (λ (k t : ℕ). finished (12 * k ∷ t ∷ [])) (sym counted) (sym totals) ∙ sym (timed (length old) ∙ rw (same_room (length old), x))

    pub written : (new : List ℕ) (t : ℕ) → t ≡ r.tick + r.ticks_left + σ.beat → new ≡ over (block_bytes result) old
        → LaysOutSound file σ old new (Ok (record { bytes = 12 * n; total = t }))
    unfolding block_bytes
    written new t e y = record {
      reply = ap (λ (u : ℕ). finished (12 * n ∷ u ∷ [])) e ∙ replies;
      leaves = y ∙ ap (λ (v : Verdict). kept v (over (bytes (linearise result)) old) old) replies;
    }

-- THE CALL

module _ (s file : List ℕ) (σ : Settings) (R : Reads s Equalised file (Ok σ)) where
  pub sound_file : SoundFile Equalised file
  sound_file = record { sound = read_sound s Equalised file σ R }

  pub settings_in_range : InRange σ
  settings_in_range =
      let G = in_range s (read_settings s Equalised file σ R) in
      let e = R.settings σ refl in
      record {
        positive = subst Positive (sym e) G.positive;
        narrow = subst (λ (τ : Settings). τ.window ≤ 1000000) (sym e) G.narrow;
        short = subst (λ (τ : Settings). τ.period ≤ 1000000) (sym e) G.short;
      }

module _ (s file old : List ℕ) where
  -- what it answers, and the buffer afterwards
  abbrev pub Replied : Result LaidOut Refusal → List ℕ → Type 0
  Replied r new = (laid_out r ≡ lay_out_reply s file (length old)) × (new ≡ lay_out_out s file old)

  pub read_refused : (x : Refusal) → Reads s Equalised file (Err x) → Replied (Err x) old
  unfolding lay_out_reply lay_out_out
  read_refused x R =
      let new = over (bytes (linearise (laid_tree s file))) old in
      (R.reply _, ap (λ (v : Verdict). kept v new old) (R.reply _))

  pub read_laid : (σ : Settings) (new : List ℕ) (r : Result LaidOut Refusal) → Reads s Equalised file (Ok σ) → LaysOutSound file σ old new r → Replied r new
  unfolding lay_out_reply lay_out_out laid_tree
  read_laid σ new r R E =
      let E' = subst (λ (τ : Settings). LaysOutSound file τ old new r) (R.settings σ refl) E in
      let next = lay_out_rows (settings_of s) (file_tree file) (length old) in
      let result = over (bytes (linearise (layout (settings_of s) (file_tree file)))) old in
      (E'.reply ∙ R.reply next, E'.leaves ∙ ap (λ (v : Verdict). kept v result old) (R.reply next))
