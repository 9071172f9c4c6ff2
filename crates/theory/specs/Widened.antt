-- W-202, with W-204's last number, over the replies of the calls: each part under the words that it answers. The proof is in proofs/Widened.antt.
-- "Equalising, layout and taking up are shown for the wide numbers" by `Demand2` and `Demand3`, which are over any settings that are taken.
use Rattle.std.specs.Prelude.{ℕ, ◌^◌, ◌≤◌, ◌<◌, ◌≡◌, ◌↔◌, ◌⊎◌, false, List, length, get_or, take, Option}
use Rattle.model.specs.Records.{Bytes, half_at, word_at}
use Rattle.model.specs.declared.Settings.{Settings}
use Rattle.model.specs.declared.Form.{Form}
use Rattle.model.specs.Settings.{settings_of, bad_settings, wide_bytes}
use Rattle.model.specs.Placement.{Positive}
use Rattle.model.specs.Replies.{time_reply, equalise_reply, equalise_out, lay_out_reply, lay_out_out, prepare_reply, prepare_out}
use Rattle.model.specs.Stopping.{Image}
use Rattle.model.specs.Replies.{Loan, steps_of, run_reply, run_buffers, stop_reply, stop_buffers, stop_image}
use Rattle.model.specs.Replies.{taken_up, resume_reply, resume_buffers, restart_reply, restart_buffers}
use Rattle.model.specs.Chain.{Set}
use Rattle.model.specs.Rehearsal.{chain, rehearsal}
use Rattle.model.specs.Listing.{list_starts, printed}

-- WHICH SETTINGS ARE TAKEN

-- "a length other than 12 or 24" is refused
abbrev pub Formed : List ℕ → Type 0
Formed s = (length s ≡ 12) ⊎ (length s ≡ 24)

-- "All are at least 1; P is at most 1,000,000", "H may then reach 1,000,000"; W-204: "a multiply time of 0 or above 65,535 is 6"
pub record Good (s : List ℕ) : Type 0 where
  pub formed : Formed s
  pub positive : Positive (settings_of s)
  pub period_lasts : 1 ≤ (settings_of s).period
  pub window_limit : (settings_of s).window ≤ 1000000
  pub period_limit : (settings_of s).period ≤ 1000000
  pub multiply_limit : (settings_of s).multiply ≤ 65535

-- "our ticks are single bytes"; W-204: "with 12-byte settings it equals SET's"
pub record FitsNarrow (σ : Settings) : Type 0 where
  pub set_fits : σ.set ≤ 255
  pub read_fits : σ.read ≤ 255
  pub write_fits : σ.write ≤ 255
  pub beat_fits : σ.beat ≤ 255
  pub save_fits : σ.save ≤ 255
  pub spacing_fits : σ.spacing ≤ 255
  pub window_fits : σ.window ≤ 65535
  pub one_time : σ.multiply ≡ σ.set

-- numbers of 16 and of 32 bits
pub record FitsWide (σ : Settings) : Type 0 where
  pub set_fits : σ.set ≤ 65535
  pub read_fits : σ.read ≤ 65535
  pub write_fits : σ.write ≤ 65535
  pub beat_fits : σ.beat ≤ 65535
  pub save_fits : σ.save ≤ 65535
  pub spacing_fits : σ.spacing ≤ 65535
  pub window_fits : σ.window < 2 ^ 32
  pub period_fits : σ.period < 2 ^ 32
  pub multiply_fits : σ.multiply < 2 ^ 32

-- the wide form holds these numbers
pub record Holds (σ : Settings) : Type 0 where
  pub bytes : Bytes (wide_bytes σ)
  pub formed : length (wide_bytes σ) ≡ 24
  pub numbers : settings_of (wide_bytes σ) ≡ σ

-- EVERY CALL

-- "Old and new settings with equal numbers": 12 bytes s and 24 bytes t, whose multiply takes SET's ticks
pub record EqualNumbers (s t : List ℕ) : Type 0 where
  pub old : length s ≡ 12
  pub new : length t ≡ 24
  pub set : get_or s 0 0 ≡ half_at t 0
  pub read : get_or s 1 0 ≡ half_at t 2
  pub write : get_or s 2 0 ≡ half_at t 4
  pub beat : get_or s 3 0 ≡ half_at t 6
  pub save : get_or s 4 0 ≡ half_at t 8
  pub spacing : get_or s 5 0 ≡ half_at t 10
  pub window : half_at s 6 ≡ word_at t 12
  pub period : word_at s 8 ≡ word_at t 16
  pub multiply : get_or s 0 0 ≡ word_at t 20

-- both good or both bad, and each number equal
pub record Alike (s t : List ℕ) : Type 0 where
  pub judged : bad_settings s ≡ bad_settings t
  pub numbers : settings_of s ≡ settings_of t

-- all else that a run is handed, with settings s
abbrev pub under : List ℕ → Loan → Loan
under s c = record { settings = s; form = c.form; file = c.file; inputs = c.inputs; buffers = c.buffers }

-- `time_file`, `equalise`, `lay_out`, `prepare`, `run`, `run_until`, `resume` and `restart`, and `rehearse`, `list_task` and `render`, which are made
-- of them, answer the same and leave the same in each lent buffer, whatever else they are handed. Runs do the same steps, of which demand 2 speaks.
pub record SameCalls (s t : List ℕ) : Type 0 where
  pub time : (f : Form) (file : List ℕ) → time_reply s f file ≡ time_reply t f file
  pub equalise : (task : List ℕ) (room : ℕ) → equalise_reply s task room ≡ equalise_reply t task room
  pub equalised : (task out : List ℕ) → equalise_out s task out ≡ equalise_out t task out
  -- "must lay equal files"
  pub lay_out : (file : List ℕ) (room : ℕ) → lay_out_reply s file room ≡ lay_out_reply t file room
  pub laid : (file out : List ℕ) → lay_out_out s file out ≡ lay_out_out t file out
  pub prepare : (task : List ℕ) (room : ℕ) → prepare_reply s task room ≡ prepare_reply t task room
  pub prepared : (task out : List ℕ) → prepare_out s task out ≡ prepare_out t task out
  pub run : (c : Loan) → run_reply (under s c) ≡ run_reply (under t c)
  pub ran : (c : Loan) → run_buffers (under s c) ≡ run_buffers (under t c)
  pub run_until : (c : Loan) (image : List ℕ) (stop : ℕ) → stop_reply (under s c) image stop ≡ stop_reply (under t c) image stop
  pub stopped : (c : Loan) (image : List ℕ) (stop : ℕ) → stop_buffers (under s c) image stop ≡ stop_buffers (under t c) image stop
  pub saved : (c : Loan) (image : List ℕ) (stop : ℕ) → stop_image (under s c) image stop ≡ stop_image (under t c) image stop
  pub resume : (c : Loan) (image : List ℕ) → resume_reply (under s c) image ≡ resume_reply (under t c) image
  pub resumed : (c : Loan) (image : List ℕ) → resume_buffers (under s c) image ≡ resume_buffers (under t c) image
  pub restart : (c : Loan) → restart_reply (under s c) ≡ restart_reply (under t c)
  pub restarted : (c : Loan) → restart_buffers (under s c) ≡ restart_buffers (under t c)
  pub steps : (c : Loan) → steps_of (under s c) ≡ steps_of (under t c)
  pub steps_taken_up : (c : Loan) (i : Image) → taken_up (under s c) i ≡ taken_up (under t c) i
  pub rehearse : (task : List ℕ) (x y : Set) (stop : Option ℕ) → rehearsal stop (chain s task x y stop) ≡ rehearsal stop (chain t task x y stop)
  pub starts : (task table : List ℕ) → list_starts s task table ≡ list_starts t task table
  pub listing : (task : List ℕ) → printed s task ≡ printed t task

-- W-202

pub record Widened : Type 0 where
  -- "Refusal 6 now means a length other than 12 or 24, or a bad number."
  pub good : (s : List ℕ) → (bad_settings s ≡ false) ↔ Good s
  -- "six 16-bit numbers (SET, READ, WRITE, BEAT, SAVE, K), then H, P and a zero, 32 bits each"; W-204: "The zero .. becomes the ticks of a multiply"
  pub fits : (s : List ℕ) → Bytes s → Formed s → FitsWide (settings_of s)
  pub narrow_fits : (s : List ℕ) → Bytes s → length s ≡ 12 → FitsNarrow (settings_of s)
  pub holds : (σ : Settings) → FitsWide σ → Holds σ
  -- "Old and new settings with equal numbers must lay equal files."
  pub equal_numbers : (s t : List ℕ) → EqualNumbers s t → Alike s t
  pub equal_settings : (s t : List ℕ) → Formed s → Formed t → settings_of s ≡ settings_of t → Alike s t
  pub same : (s t : List ℕ) → Alike s t → SameCalls s t
  -- "old settings are read as wide ones"
  pub widens : (s : List ℕ) → length s ≡ 12 → Alike s (wide_bytes (settings_of s))
  -- 25 bytes of a file of settings are enough: more than 24 are refused, whatever follows
  pub enough : (s : List ℕ) (n : ℕ) → 25 ≤ n → Alike (take n s) s
