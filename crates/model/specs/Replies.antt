-- Document 01, "Why a call is turned down": what each call answers to whatever is handed over, and each lent buffer afterwards.
use Rattle.std.specs.Prelude.{ℕ, ◌+◌, ◌*◌, ◌-◌, Bool, true, false, cond, not, ◌||◌, List, [], ◌∷◌, eqb, leb, ltb, length}
use Rattle.model.specs.declared.Settings.{Settings}
use Rattle.model.specs.declared.Form.{Form}
use Rattle.model.specs.declared.Form.TheVariants.{Task, Equalised}
use Rattle.model.specs.Limits.{file_records, file_length, variable_count, port_count, image_length}
use Rattle.model.specs.Records.{bytes, kind_at, over, SAVE}
use Rattle.model.specs.Settings.{settings_of, bad_settings}
use Rattle.model.specs.Trees.{Block, size, linearise, file_tree}
use Rattle.model.specs.Times.{longest, time}
use Rattle.model.specs.Runs.{Step, duration, overran, Buffers, leave, cleared, run}
use Rattle.model.specs.Equalising.{equalise}
use Rattle.model.specs.Layout.{layout, total}
use Rattle.model.specs.Stopping.{upto, Image, Saved, none, saved, last_image, image_bytes, image_of, start, take_up}
use Rattle.model.specs.Refusals.{Fault, sound, faulty, fault}
use Rattle.model.specs.Answers.{Verdict, finished, refused, and_then, kept, bit}

-- A row of the table that returns its number alone: "The table's order is the order of checks".
abbrev pub turn_down : ℕ → Bool → Verdict → Verdict
turn_down n cause next = cond cause (refused n []) next

-- Rows 6 and 1 to 5, which every call tries first.
abbrev pub unless : Fault → Verdict → Verdict
unless sound next = next
unless (faulty n x) next = refused n (x ∷ [])

unfoldable pub reading : List ℕ → Form → List ℕ → Verdict → Verdict
reading s f file next = turn_down 6 (bad_settings s) (unless (fault f file) next)

-- "H below B + S + the longest of SET, READ, WRITE, used or not" (row 7); W-204 counts a multiply too
abbrev pub short_window : Settings → Bool
short_window σ = ltb σ.window (σ.beat + σ.save + longest σ)

-- "above P" (row 8)
abbrev pub above : Settings → ℕ → Bool
above σ t = ltb σ.period t

-- "result longer than the lent buffer or than 5,461 records" (row 9), for a result of n records and a buffer of `room` bytes
abbrev pub no_room : ℕ → ℕ → Bool
no_room room n = ltb room (12 * n) || ltb file_records n

-- TIMING A FILE

-- "Timing a file answers its time": row 8 and the result, for settings that were read and a file's tree
abbrev pub time_rows : Settings → Block → Verdict
time_rows σ b = turn_down 8 (above σ (time σ b)) (finished (time σ b ∷ []))

abbrev pub file_time : List ℕ → List ℕ → ℕ
file_time s file = time (settings_of s) (file_tree file)

unfoldable pub time_reply : List ℕ → Form → List ℕ → Verdict
time_reply s f file = reading s f file (time_rows (settings_of s) (file_tree file))

-- EQUALISING

-- "equalising answers the bytes written and the time": rows 8 and 9 and the result
abbrev pub equalise_rows : Settings → Block → ℕ → Verdict
equalise_rows σ b room =
    let n = size (equalise σ b) in
    turn_down 8 (above σ (time σ b))
    (turn_down 9 (no_room room n)
    (finished (12 * n ∷ time σ b ∷ [])))

unfoldable pub equalise_reply : List ℕ → List ℕ → ℕ → Verdict
equalise_reply s task room = reading s Task task (equalise_rows (settings_of s) (file_tree task) room)

-- the equalised task, and its bytes, which are written over the front of the buffer
unfoldable pub equalised_tree : List ℕ → List ℕ → Block
equalised_tree s task = equalise (settings_of s) (file_tree task)

abbrev pub equalised_of : List ℕ → List ℕ → List ℕ
equalised_of s task = bytes (linearise (equalised_tree s task))

unfoldable pub equalise_out : List ℕ → List ℕ → List ℕ → List ℕ
equalise_out s task out = kept (equalise_reply s task (length out)) (over (equalised_of s task) out) out

-- LAYING OUT

-- "laying out the bytes written and the total": rows 7 to 9 and the result
abbrev pub lay_out_rows : Settings → Block → ℕ → Verdict
lay_out_rows σ b room =
    let n = size (layout σ b) in
    turn_down 7 (short_window σ)
    (turn_down 8 (above σ (time σ b) || above σ (total σ b))
    (turn_down 9 (no_room room n)
    (finished (12 * n ∷ total σ b ∷ []))))

unfoldable pub lay_out_reply : List ℕ → List ℕ → ℕ → Verdict
lay_out_reply s file room = reading s Equalised file (lay_out_rows (settings_of s) (file_tree file) room)

-- the laid file, its bytes and its total
unfoldable pub laid_tree : List ℕ → List ℕ → Block
laid_tree s file = layout (settings_of s) (file_tree file)

abbrev pub laid_of : List ℕ → List ℕ → List ℕ
laid_of s file = bytes (linearise (laid_tree s file))

abbrev pub laid_total : List ℕ → List ℕ → ℕ
laid_total s file = total (settings_of s) (file_tree file)

unfoldable pub lay_out_out : List ℕ → List ℕ → List ℕ → List ℕ
lay_out_out s file out = kept (lay_out_reply s file (length out)) (over (laid_of s file) out) out

-- PREPARING

-- "prepared means equalised and then laid out", "Laying out gets what equalising wrote": for that there is always room. Rows 6, 1 to 5 and 8
-- of equalising, and then 7, 8 and 9 of laying out.
unfoldable pub prepare_reply : List ℕ → List ℕ → ℕ → Verdict
prepare_reply s task room = and_then (equalise_reply s task file_length) (lay_out_reply s (equalised_of s task) room)

unfoldable pub prepare_out : List ℕ → List ℕ → List ℕ → List ℕ
prepare_out s task out = kept (prepare_reply s task (length out)) (over (laid_of s (equalised_of s task)) out) out

-- RUNNING

-- what run, run_until, resume and restart are handed over
pub record Loan : Type 0 where
  pub settings : List ℕ
  pub form : Form
  pub file : List ℕ
  pub inputs : List ℕ
  pub buffers : Buffers

abbrev pub buffers_of : List ℕ → List ℕ → List ℕ → Buffers
buffers_of v l m = record { variables = v; levels = l; marks = m }

-- in the order of a call's parameters
abbrev pub loan : List ℕ → Form → List ℕ → List ℕ → List ℕ → List ℕ → List ℕ → Loan
loan s f file v ins l m = record { settings = s; form = f; file = file; inputs = ins; buffers = buffers_of v l m }

-- "variables not 16, inputs not 8, outputs not 8 values and 8 marks" (row 10)
abbrev pub bad_lengths : ℕ → ℕ → ℕ → ℕ → Bool
bad_lengths v i l m = not (eqb v variable_count) || not (eqb i port_count) || not (eqb l port_count) || not (eqb m port_count)

abbrev pub bad_buffers : Loan → Bool
bad_buffers c = bad_lengths (length c.buffers.variables) (length c.inputs) (length c.buffers.levels) (length c.buffers.marks)

-- "or image buffer not 72 bytes" (row 10)
abbrev pub bad_image_length : List ℕ → Bool
bad_image_length image = not (eqb (length image) image_length)

-- rows 8 and 10, with a cause of row 10, and what follows them
abbrev pub ready_rows : Settings → Block → Bool → Verdict → Verdict
ready_rows σ b cause next = turn_down 8 (above σ (time σ b)) (turn_down 10 cause next)

unfoldable pub ready : Loan → Bool → Verdict → Verdict
ready c cause next =
    reading c.settings c.form c.file (ready_rows (settings_of c.settings) (file_tree c.file) (bad_buffers c || cause) next)

-- "A run answers its end tick .. and whether it overran": steps from tick t on
abbrev pub ended : ℕ → List Step → Verdict
ended t es = finished ((t + duration es) ∷ bit (overran es) ∷ [])

-- "A run not taken up begins at record 0 and tick 0"
unfoldable pub steps_of : Loan → List Step
steps_of c = run (settings_of c.settings) c.inputs (file_tree c.file) 0 c.buffers.variables

unfoldable pub run_reply : Loan → Verdict
run_reply c = ready c false (ended 0 (steps_of c))

unfoldable pub run_buffers : Loan → Buffers
run_buffers c = kept (run_reply c) (leave (steps_of c) (cleared c.buffers.variables)) c.buffers

-- RUNNING UNTIL A TICK

-- the image of the last SAVE that is finished at the stop tick, of steps that begin with variables v
abbrev pub saved_at : ℕ → List Step → List ℕ → Saved
saved_at stop es v = last_image (upto stop es) 0 v none

unfoldable pub image_at : Loan → ℕ → Saved
image_at c stop = saved_at stop (steps_of c) c.buffers.variables

abbrev pub is_saved : Saved → Bool
is_saved none = false
is_saved (saved m) = true

-- "stop tick at or past the run's end" (row 12)
abbrev pub stop_rows : List Step → List ℕ → ℕ → Verdict
stop_rows es v stop = turn_down 12 (leb (duration es) stop) (finished (stop ∷ 0 ∷ bit (is_saved (saved_at stop es v)) ∷ []))

unfoldable pub stop_reply : Loan → List ℕ → ℕ → Verdict
stop_reply c image stop = ready c (bad_image_length image) (stop_rows (steps_of c) c.buffers.variables stop)

-- "The lent variables and outputs then show the state after the last step done."
unfoldable pub stop_buffers : Loan → List ℕ → ℕ → Buffers
stop_buffers c image stop =
    kept (stop_reply c image stop) (leave (upto stop (steps_of c)) (cleared c.buffers.variables)) c.buffers

-- "With no finished SAVE the image buffer is untouched"
abbrev pub image_over : Saved → List ℕ → List ℕ
image_over none old = old
image_over (saved m) old = image_bytes m

unfoldable pub stop_image : Loan → List ℕ → ℕ → List ℕ
stop_image c image stop = kept (stop_reply c image stop) (image_over (image_at c stop) image) image

-- TAKING UP

unfoldable pub taken_up : Loan → Image → List Step
taken_up c m = take_up (settings_of c.settings) c.inputs (file_tree c.file) m

-- "takes the outputs as the stop left them"
unfoldable pub taken_buffers : Loan → Image → Buffers
taken_buffers c m =
    leave (taken_up c m) (record { variables = m.variables; levels = c.buffers.levels; marks = c.buffers.marks })

-- "image's index not just after a SAVE, or tick above P" (row 11)
abbrev pub after_save : List ℕ → ℕ → Bool
after_save file j = cond (eqb j 0) false (eqb (kind_at file (j - 1)) SAVE)

abbrev pub stray_image : Settings → List ℕ → Image → Bool
stray_image σ file m = not (after_save file m.index) || above σ m.tick

abbrev pub resume_rows : Settings → List ℕ → Image → List Step → Verdict
resume_rows σ file m es = turn_down 11 (stray_image σ file m) (ended m.tick es)

unfoldable pub resume_reply : Loan → List ℕ → Verdict
resume_reply c image =
    let m = image_of image in
    ready c (bad_image_length image) (resume_rows (settings_of c.settings) c.file m (taken_up c m))

unfoldable pub resume_buffers : Loan → List ℕ → Buffers
resume_buffers c image = kept (resume_reply c image) (taken_buffers c (image_of image)) c.buffers

-- "with no finished SAVE, the first variables at record 0 and tick 0"
unfoldable pub restart_reply : Loan → Verdict
restart_reply c = ready c false (ended 0 (taken_up c (start c.buffers.variables)))

unfoldable pub restart_buffers : Loan → Buffers
restart_buffers c = kept (restart_reply c) (taken_buffers c (start c.buffers.variables)) c.buffers
