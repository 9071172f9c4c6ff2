-- How large the values of a finished result can be, and that C reads them back from the bits of the number that it gets.
use Prim.Native.Nat.{ℕ, ◌+◌, ◌*◌, ◌-◌, ◌/◌, ◌%◌, ◌^◌, ◌≤◌, ◌<◌}
use native.Mathlib.Omega.{arith}
use mathlib.Core.{Path.◌≡◌, Path.ap, Path.sym, List.List, List.[], List.◌∷◌}
use mathlib.Core.Bool.{Bool, true, false, cond, not, ◌||◌}
use lib.{Dec.leb, ListN.length, ListN.get_or}
use borrow.Author.Tests.{ltb-false, leb-false, not-false}
use Rattle.model.specs.declared.{Form.Form, Entry.Entry, Event.Event}
use Rattle.model.specs.declared.Event.TheVariants.{Beat, Look, Reset}
use Rattle.model.specs.{Settings.settings_of, Trees.file_tree, Times.time, Refusals.sound, Refusals.fault, Limits.file_length, Limits.most_ticks}
use Rattle.model.specs.{Runs.Step, Runs.duration, Runs.overran, Answers.Verdict, Answers.finished, Answers.bit, Answers.health_number}
use Rattle.model.specs.Stopping.{Image, image_of, start, rest, take_up}
use Rattle.model.specs.Replies.{turn_down, above, file_time, time_reply, equalise_reply, lay_out_reply, equalised_of, prepare_reply}
use Rattle.model.specs.Replies.{Loan, bad_buffers, bad_image_length, ready, ended, steps_of, run_reply, stop_reply, image_at, is_saved, taken_up, after_save, stray_image, resume_reply, restart_reply}
use Rattle.model.specs.Watching.{has_failed, health_of, unless_failed, with_left, after, bad_event, told}
use Rattle.laws.proofs.Shapes.{neither}
use Rattle.theory.proofs.{Within.run_within, Left.rest_0, Reached.rest_reached}
use Rattle.theory.proofs.Accepted.{passed, read, in_range, equalise_accepted, lay_out_accepted}
use Rattle.preparation.proofs.Chaining.{second_done}
use Rattle.running.proofs.Positions.{rest_shorter}
use Rattle.packing.specs.Words.{file_word, run_word}
use Rattle.packing.proofs.Healths.{health_small}
use Rattle.tables.specs.Numbers.{entry_from, bad_table, numbers_reply, numbers_status}

-- the values of a result
abbrev first : List ℕ → ℕ
first xs = get_or xs 0 0

abbrev second : List ℕ → ℕ
second xs = get_or xs 1 0

abbrev third : List ℕ → ℕ
third xs = get_or xs 2 0

-- FILES

-- the first value has room in bits 0 to 23, and the second in bits 24 to 55; so have the watcher's, which are packed alike
pub record FileBound (xs : List ℕ) : Type 0 where
  pub one : first xs ≤ 1000000
  pub two : second xs < 2 ^ 32

pub time_bound : (s : List ℕ) (f : Form) (file xs : List ℕ) → time_reply s f file ≡ finished xs → FileBound xs
unfolding time_reply
time_bound s f file xs e =
    let r = read s f file _ xs e in
    let p = passed 8 (above (settings_of s) (file_time s file)) (finished (file_time s file ∷ [])) xs r.goes_on in
    let is : file_time s file ∷ [] ≡ xs = (let q = p.1 in cc) in
    record {
      one = omega (arith, ap first is, ltb-false (settings_of s).period (file_time s file) p.0, (in_range s r.settings_good).short);
      two = omega (arith, ap second is);
    }

pub equalise_bound : (s task : List ℕ) (room : ℕ) (xs : List ℕ) → equalise_reply s task room ≡ finished xs → FileBound xs
equalise_bound s task room xs e =
    let a = equalise_accepted s task room xs e in
    record { one = omega (arith, ap first a.answers, a.has_room.few); two = omega (arith, ap second a.answers, a.in_time, a.in_range.short) }

pub lay_out_bound : (s file : List ℕ) (room : ℕ) (xs : List ℕ) → lay_out_reply s file room ≡ finished xs → FileBound xs
lay_out_bound s file room xs e =
    let a = lay_out_accepted s file room xs e in
    record { one = omega (arith, ap first a.answers, a.has_room.few); two = omega (arith, ap second a.answers, a.in_time, a.in_range.short) }

pub prepare_bound : (s task : List ℕ) (room : ℕ) (xs : List ℕ) → prepare_reply s task room ≡ finished xs → FileBound xs
unfolding prepare_reply
prepare_bound s task room xs e = lay_out_bound s (equalised_of s task) room xs (sym (second_done (equalise_reply s task file_length) _ (sym e)))

-- THE WATCHER

-- how an entry is, and what is left of it
told_bound : (e : Entry) (xs : List ℕ) → e.left < 2 ^ 32 → told e ≡ finished xs → FileBound xs
told_bound e xs small answers =
    let is : health_number (health_of e) ∷ e.left ∷ [] ≡ xs = cc in
    record { one = omega (arith, ap first is, health_small (health_of e)); two = omega (arith, ap second is) }

either_small : (o : Bool) (e f : Entry) → e.left < 2 ^ 32 → f.left < 2 ^ 32 → (cond o e f).left < 2 ^ 32
either_small true e f h k = h
either_small false e f h k = k

after_small : (x : Event) (e : Entry) → bad_event x ≡ false → e.left < 2 ^ 32 → (after x e).left < 2 ^ 32
after_small (Beat v) e good h =
    either_small (has_failed (health_of e)) e (with_left (v + 2) e) h (let k = ltb-false most_ticks v good in omega arith)
after_small Look e good h =
    either_small e.waiting e (unless_failed e (with_left (e.left - 1) e)) h
    (either_small (has_failed (health_of e)) e (with_left (e.left - 1) e) h (omega arith))
after_small (Reset w) e good h = omega arith

-- of a table that holds numbers of 32 bits
module _ (t : List ℕ) (n : ℕ) where
  pub numbers_bound : (x : Event) (xs : List ℕ) → ((i : ℕ) → get_or t i 0 < 2 ^ 32) → numbers_reply t n x ≡ finished xs → FileBound xs
  unfolding numbers_reply
  numbers_bound x xs small e =
      let p = passed 13 (bad_table (length t) n || bad_event x) (told (after x (entry_from t (3 * n)))) xs e in
      let good = (neither (bad_table (length t) n) (bad_event x) p.0).1 in
      told_bound (after x (entry_from t (3 * n))) xs (after_small x (entry_from t (3 * n)) good (small (3 * n))) p.1

  pub status_bound : (xs : List ℕ) → ((i : ℕ) → get_or t i 0 < 2 ^ 32) → numbers_status t n ≡ finished xs → FileBound xs
  unfolding numbers_status
  status_bound xs small e =
      told_bound (entry_from t (3 * n)) xs (small (3 * n)) (passed 13 (bad_table (length t) n) (told (entry_from t (3 * n))) xs e).1

-- RUNS

-- the tick at which one ends or is stopped, whether it overran, and whether there is an image
pub record RunBound (xs : List ℕ) : Type 0 where
  pub tick : first xs ≤ 2000000
  pub overran_bit : second xs ≤ 1
  pub saved_bit : third xs ≤ 1

record GoesOn (c : Loan) (next : Verdict) (xs : List ℕ) : Type 0 where
  file_sound : fault c.form c.file ≡ sound
  in_time : file_time c.settings c.file ≤ (settings_of c.settings).period
  short : (settings_of c.settings).period ≤ 1000000
  goes_on : next ≡ finished xs

readied : (c : Loan) (cause : Bool) (next : Verdict) (xs : List ℕ) → ready c cause next ≡ finished xs → GoesOn c next xs
unfolding ready
readied c cause next xs e =
    let s = c.settings in
    let t = file_time s c.file in
    let r = read s c.form c.file _ xs e in
    let p = passed 8 (above (settings_of s) t) (turn_down 10 (bad_buffers c || cause) next) xs r.goes_on in
    record {
      file_sound = r.file_sound;
      in_time = ltb-false (settings_of s).period t p.0;
      short = (in_range s r.settings_good).short;
      goes_on = (passed 10 (bad_buffers c || cause) next xs p.1).1;
    }

steps_within : (c : Loan) → duration (steps_of c) ≤ file_time c.settings c.file
unfolding steps_of
steps_within c = (run_within (settings_of c.settings) c.inputs (file_tree c.file) 0).in_all c.buffers.variables

bit_small : (o : Bool) → bit o ≤ 1
bit_small true = omega arith
bit_small false = omega arith

-- a run that ends so soon
ended_bound : (t : ℕ) (es : List Step) (xs : List ℕ) → ended t es ≡ finished xs → t + duration es ≤ 2000000 → RunBound xs
ended_bound t es xs e h =
    let is : (t + duration es) ∷ bit (overran es) ∷ [] ≡ xs = cc in
    record { tick = omega (arith, ap first is); overran_bit = omega (arith, ap second is, bit_small (overran es)); saved_bit = omega (arith, ap third is) }

pub run_bound : (c : Loan) (xs : List ℕ) → run_reply c ≡ finished xs → RunBound xs
unfolding run_reply
run_bound c xs e =
    let r = readied c false (ended 0 (steps_of c)) xs e in
    ended_bound 0 (steps_of c) xs r.goes_on (omega (arith, steps_within c, r.in_time, r.short))

pub stop_bound : (c : Loan) (image : List ℕ) (stop : ℕ) (xs : List ℕ) → stop_reply c image stop ≡ finished xs → RunBound xs
unfolding stop_reply image_at
stop_bound c image stop xs e =
    let r = readied c (bad_image_length image) _ xs e in
    let p = passed 12 (leb (duration (steps_of c)) stop) (finished (stop ∷ 0 ∷ bit (is_saved (image_at c stop)) ∷ [])) xs r.goes_on in
    let is : stop ∷ 0 ∷ bit (is_saved (image_at c stop)) ∷ [] ≡ xs = (let q = p.1 in cc) in
    record {
      tick = omega (arith, ap first is, leb-false (duration (steps_of c)) stop p.0, steps_within c, r.in_time, r.short);
      overran_bit = omega (arith, ap second is);
      saved_bit = omega (arith, ap third is, bit_small (is_saved (image_at c stop)));
    }

-- what is taken up takes no longer than the file
taken_within : (c : Loan) (m : Image) → time (settings_of c.settings) (rest (file_tree c.file) m.index) ≤ file_time c.settings c.file
    → duration (taken_up c m) ≤ file_time c.settings c.file
unfolding taken_up take_up
taken_within c m h =
    omega (arith, (run_within (settings_of c.settings) c.inputs (rest (file_tree c.file) m.index) m.index).in_all m.variables, h)

pub resume_bound : (c : Loan) (image xs : List ℕ) → resume_reply c image ≡ finished xs → RunBound xs
unfolding resume_reply
resume_bound c image xs e =
    let m = image_of image in
    let σ = settings_of c.settings in
    let r = readied c (bad_image_length image) _ xs e in
    let p = passed 11 (stray_image σ c.file m) (ended m.tick (taken_up c m)) xs r.goes_on in
    let q = neither (not (after_save c.file m.index)) (above σ m.tick) p.0 in
    let early = ltb-false σ.period m.tick q.1 in
    let free = rest_reached c.form c.file m.index r.file_sound (not-false (after_save c.file m.index) q.0) in
    let within = taken_within c m (rest_shorter σ (file_tree c.file) m.index free) in
    ended_bound m.tick (taken_up c m) xs p.1 (omega (arith, within, early, r.in_time, r.short))

pub restart_bound : (c : Loan) (xs : List ℕ) → restart_reply c ≡ finished xs → RunBound xs
unfolding restart_reply
restart_bound c xs e =
    let m = start c.buffers.variables in
    let r = readied c false (ended 0 (taken_up c m)) xs e in
    let whole = ap (time (settings_of c.settings)) (rest_0 (file_tree c.file)) in
    let within = taken_within c m (omega (arith, whole)) in
    ended_bound 0 (taken_up c m) xs r.goes_on (omega (arith, within, r.in_time, r.short))

-- READING A NUMBER BACK

pub record FileRead (xs : List ℕ) (r : ℕ) : Type 0 where
  pub finished_too : r / 2 ^ 63 ≡ 0
  pub one : r % 2 ^ 24 ≡ first xs
  pub two : r / 2 ^ 24 ≡ second xs

pub file_read : (xs : List ℕ) → FileBound xs → FileRead xs (file_word xs)
file_read xs b = record { finished_too = omega (arith, b.one, b.two); one = omega (arith, b.one); two = omega (arith, b.one) }

pub record RunRead (xs : List ℕ) (r : ℕ) : Type 0 where
  pub finished_too : r / 2 ^ 63 ≡ 0
  pub tick : r % 2 ^ 24 ≡ first xs
  pub flags : r / 2 ^ 56 ≡ second xs + 2 * third xs

pub run_read : (xs : List ℕ) → RunBound xs → RunRead xs (run_word xs)
run_read xs b = record { finished_too = omega (arith, b.tick, b.overran_bit, b.saved_bit); tick = omega (arith, b.tick); flags = omega (arith, b.tick) }
