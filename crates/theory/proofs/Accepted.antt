-- What a call that is not refused has shown of what was handed over, and what is enough for a call not to be refused.
use Prim.Native.Nat.{ℕ, ◌+◌, ◌*◌, ◌≤◌, ◌<◌}
use native.Mathlib.Omega.{arith}
use mathlib.Core.{Path.◌≡◌, Path.refl, Path.◌∙◌, List.List, List.[], List.◌∷◌}
use mathlib.Core.Bool.{Bool, true, false, ◌||◌}
use lib.{Dec.eqb, Dec.leb, Dec.ltb, ListN.length}
use borrow.Author.Tests.{not-false, leb-false, eqb-true, eqb-false, ltb-false, le-ltb}
use Rattle.model.specs.{Limits.file_records, Limits.image_length, Times.time, Times.longest, Runs.duration, Chain.Outputs, Chain.lend}
use Rattle.model.specs.{Placement.Positive, Placement.Fits}
use Rattle.model.specs.declared.{Settings.Settings, Form.Form}
use Rattle.model.specs.declared.Form.TheVariants.{Task, Equalised}
use Rattle.model.specs.Settings.{settings_of, out_of_range, bad_settings_length, bad_settings}
use Rattle.model.specs.Trees.{Block, size, file_tree}
use Rattle.model.specs.{Answers.Verdict, Answers.finished, Answers.bit}
use Rattle.model.specs.Refusals.{Fault, sound, faulty, fault}
use Rattle.model.specs.Replies.{turn_down, unless, reading, short_window, above, no_room, file_time, time_reply}
use Rattle.model.specs.Replies.{equalised_tree, equalise_reply, laid_tree, laid_total, lay_out_reply, Loan, bad_buffers, bad_image_length, ready, steps_of, image_at, is_saved, stop_reply}
use Rattle.laws.proofs.Shapes.{neither}

-- ROWS

pub passed : (n : ℕ) (cause : Bool) (next : Verdict) (xs : List ℕ) → turn_down n cause next ≡ finished xs → (cause ≡ false) × (next ≡ finished xs)
passed n true next xs e = let z : ◌≡◌ {A = ℕ} 0 1 = cc in absurd (omega arith)
passed n false next xs e = (refl, e)

pub record Read (s : List ℕ) (f : Form) (file : List ℕ) (next : Verdict) (xs : List ℕ) : Type 0 where
  pub settings_good : bad_settings s ≡ false
  pub file_sound : fault f file ≡ sound
  pub goes_on : next ≡ finished xs

pub read : (s : List ℕ) (f : Form) (file : List ℕ) (next : Verdict) (xs : List ℕ) → reading s f file next ≡ finished xs → Read s f file next xs
unfolding reading
read s f file next xs e =
    let p = passed 6 (bad_settings s) (unless (fault f file) next) xs e in
    go (fault f file) refl p.0 p.1
  where
    go : (x : Fault) → fault f file ≡ x → bad_settings s ≡ false → unless x next ≡ finished xs → Read s f file next xs
    go sound h g n = record { settings_good = g; file_sound = h; goes_on = n }
    go (faulty n x) h g m = let z : ◌≡◌ {A = ℕ} 0 1 = cc in absurd (omega arith)

pub reads : (s : List ℕ) (f : Form) (file : List ℕ) (next : Verdict) → bad_settings s ≡ false → fault f file ≡ sound → reading s f file next ≡ next
unfolding reading
reads s f file next g h = rw (g, h)

-- SETTINGS

pub record InRange (σ : Settings) : Type 0 where
  pub positive : Positive σ
  pub lasts : 1 ≤ σ.period
  pub narrow : σ.window ≤ 1000000
  pub short : σ.period ≤ 1000000
  pub multiply_limit : σ.multiply ≤ 65535

at_least_1 : (n : ℕ) → eqb n 0 ≡ false → 1 ≤ n
at_least_1 n e = let h = eqb-false n 0 e in omega arith

pub in_range : (s : List ℕ) → bad_settings s ≡ false → InRange (settings_of s)
unfolding bad_settings
in_range s e = go (settings_of s) (neither (bad_settings_length (length s)) (out_of_range (settings_of s)) e).1
  where
    go : (σ : Settings) → out_of_range σ ≡ false → InRange σ
    go σ h =
        let h10 = neither _ (ltb 65535 σ.multiply) h in
        let h9 = neither _ (ltb 1000000 σ.period) h10.0 in
        let h8 = neither _ (ltb 1000000 σ.window) h9.0 in
        let h7 = neither _ (eqb σ.period 0) h8.0 in
        let h6 = neither _ (eqb σ.window 0) h7.0 in
        let h5 = neither _ (eqb σ.spacing 0) h6.0 in
        let h4 = neither _ (eqb σ.multiply 0) h5.0 in
        let h3 = neither _ (eqb σ.save 0) h4.0 in
        let h2 = neither _ (eqb σ.beat 0) h3.0 in
        let h1 = neither _ (eqb σ.write 0) h2.0 in
        let h0 = neither (eqb σ.set 0) (eqb σ.read 0) h1.0 in
        record {
          positive = record {
            set_lasts = at_least_1 σ.set h0.0;
            read_lasts = at_least_1 σ.read h0.1;
            write_lasts = at_least_1 σ.write h1.1;
            beat_lasts = at_least_1 σ.beat h2.1;
            save_lasts = at_least_1 σ.save h3.1;
            multiply_lasts = at_least_1 σ.multiply h4.1;
            spaced = at_least_1 σ.spacing h5.1;
            window_lasts = at_least_1 σ.window h6.1;
          };
          lasts = at_least_1 σ.period h7.1;
          narrow = ltb-false 1000000 σ.window h8.1;
          short = ltb-false 1000000 σ.period h9.1;
          multiply_limit = ltb-false 65535 σ.multiply h10.1;
        }

pub fits : (σ : Settings) → Positive σ → short_window σ ≡ false → Fits σ
fits σ p e = record { positive = p; wide = ltb-false σ.window (σ.beat + σ.save + longest σ) e }

-- CALLS

-- a result of n records fits the buffer and the longest file
pub record Room (room n : ℕ) : Type 0 where
  pub fits_buffer : 12 * n ≤ room
  pub few : n ≤ file_records

pub room_left : (room n : ℕ) → no_room room n ≡ false → Room room n
room_left room n e =
    let p = neither (ltb room (12 * n)) (ltb file_records n) e in
    record { fits_buffer = ltb-false room (12 * n) p.0; few = ltb-false file_records n p.1 }

pub record EqualiseAccepted (s task : List ℕ) (room : ℕ) (xs : List ℕ) : Type 0 where
  pub settings_good : bad_settings s ≡ false
  pub in_range : InRange (settings_of s)
  pub file_sound : fault Task task ≡ sound
  pub in_time : file_time s task ≤ (settings_of s).period
  pub has_room : Room room (size (equalised_tree s task))
  pub answers : 12 * size (equalised_tree s task) ∷ file_time s task ∷ [] ≡ xs

pub equalise_accepted : (s task : List ℕ) (room : ℕ) (xs : List ℕ) → equalise_reply s task room ≡ finished xs → EqualiseAccepted s task room xs
unfolding equalise_reply equalised_tree
equalise_accepted s task room xs e =
    let n = size (equalised_tree s task) in
    let t = file_time s task in
    let r = read s Task task _ xs e in
    let p8 = passed 8 (above (settings_of s) t) (turn_down 9 (no_room room n) (finished (12 * n ∷ t ∷ []))) xs r.goes_on in
    let p9 = passed 9 (no_room room n) (finished (12 * n ∷ t ∷ [])) xs p8.1 in
    record {
      settings_good = r.settings_good;
      in_range = in_range s r.settings_good;
      file_sound = r.file_sound;
      in_time = ltb-false (settings_of s).period t p8.0;
      has_room = room_left room n p9.0;
      answers = let q = p9.1 in cc;
    }

pub record LayOutAccepted (s file : List ℕ) (room : ℕ) (xs : List ℕ) : Type 0 where
  pub settings_good : bad_settings s ≡ false
  pub in_range : InRange (settings_of s)
  pub fits_window : Fits (settings_of s)
  pub file_sound : fault Equalised file ≡ sound
  pub in_time : laid_total s file ≤ (settings_of s).period
  pub has_room : Room room (size (laid_tree s file))
  pub answers : 12 * size (laid_tree s file) ∷ laid_total s file ∷ [] ≡ xs

pub lay_out_accepted : (s file : List ℕ) (room : ℕ) (xs : List ℕ) → lay_out_reply s file room ≡ finished xs → LayOutAccepted s file room xs
unfolding lay_out_reply laid_tree
lay_out_accepted s file room xs e =
    let σ = settings_of s in
    let n = size (laid_tree s file) in
    let t = laid_total s file in
    let late = above σ (file_time s file) || above σ t in
    let r = read s Equalised file _ xs e in
    let g = in_range s r.settings_good in
    let p7 = passed 7 (short_window σ) (turn_down 8 late (turn_down 9 (no_room room n) (finished (12 * n ∷ t ∷ [])))) xs r.goes_on in
    let p8 = passed 8 late (turn_down 9 (no_room room n) (finished (12 * n ∷ t ∷ []))) xs p7.1 in
    let p9 = passed 9 (no_room room n) (finished (12 * n ∷ t ∷ [])) xs p8.1 in
    record {
      settings_good = r.settings_good;
      in_range = g;
      fits_window = fits σ g.positive p7.0;
      file_sound = r.file_sound;
      in_time = ltb-false σ.period t (neither (above σ (file_time s file)) (above σ t) p8.0).1;
      has_room = room_left room n p9.0;
      answers = let q = p9.1 in cc;
    }

-- RUNS

-- a file that reads as the block b, within P
pub record Runnable (s : List ℕ) (f : Form) (file : List ℕ) (b : Block) : Type 0 where
  pub settings_good : bad_settings s ≡ false
  pub file_sound : fault f file ≡ sound
  pub tree : file_tree file ≡ b
  pub in_time : time (settings_of s) b ≤ (settings_of s).period

module _ (s : List ℕ) (f : Form) (file : List ℕ) (b : Block) (r : Runnable s f file b) where
  pub timed : time_reply s f file ≡ finished (time (settings_of s) b ∷ [])
  unfolding time_reply
  timed = reads s f file _ r.settings_good r.file_sound ∙ rw (r.tree, le-ltb (settings_of s).period (time (settings_of s) b) r.in_time)

  -- rows 6, 1 to 5, 8 and 10, which every run tries
  pub readied : (ins v : List ℕ) (o : Outputs) → bad_buffers (lend s f file ins v o) ≡ false → (cause : Bool) (next : Verdict) → cause ≡ false
      → ready (lend s f file ins v o) cause next ≡ next
  unfolding ready
  readied ins v o h cause next e =
      reads s f file _ r.settings_good r.file_sound ∙ rw (r.tree, le-ltb (settings_of s).period (time (settings_of s) b) r.in_time, h, e)

-- a stop that is not refused
pub record StopAccepted (c : Loan) (image : List ℕ) (stop : ℕ) : Type 0 where
  pub good : bad_buffers c ≡ false
  pub image_room : length image ≡ image_length
  pub early : stop < duration (steps_of c)

pub stop_accepted : (c : Loan) (image : List ℕ) (stop : ℕ) (xs : List ℕ) → stop_reply c image stop ≡ finished xs → StopAccepted c image stop
unfolding stop_reply ready image_at
stop_accepted c image stop xs e =
    let s = c.settings in
    let bad = bad_buffers c || bad_image_length image in
    let past = leb (duration (steps_of c)) stop in
    let answer = finished (stop ∷ 0 ∷ bit (is_saved (image_at c stop)) ∷ []) in
    let r = read s c.form c.file _ xs e in
    let p8 = passed 8 (above (settings_of s) (file_time s c.file)) (turn_down 10 bad (turn_down 12 past answer)) xs r.goes_on in
    let p10 = passed 10 bad (turn_down 12 past answer) xs p8.1 in
    let p12 = passed 12 past answer xs p10.1 in
    let q = neither (bad_buffers c) (bad_image_length image) p10.0 in
    record {
      good = q.0;
      image_room = eqb-true (length image) image_length (not-false (eqb (length image) image_length) q.1);
      early = leb-false (duration (steps_of c)) stop p12.0;
    }
