-- Document 01, "Records", W-202 and W-204 on the settings: the numbers in either form, and which are out of range.
use Rattle.std.specs.Prelude.{ℕ, Bool, cond, not, ◌||◌, ◌&&◌, List, ◌++◌, eqb, ltb, length, get_or}
use Rattle.model.specs.Limits.{most_ticks, most_multiply, narrow_length, wide_length}
use Rattle.model.specs.Records.{half_at, half_bytes, word_at, word_bytes}
use Rattle.model.specs.declared.Settings.{Settings}

-- "bytes 0 to 4 the ticks of SET, READ, WRITE, BEAT (called B) and SAVE (called S), byte 5 the checkpoint spacing K, in windows,
-- bytes 6 and 7 the window H, bytes 8 to 11 the period P." W-204 on the ticks of a multiply: "with 12-byte settings it equals SET's".
abbrev pub narrow_settings : List ℕ → Settings
narrow_settings s = record {
  set = get_or s 0 0;
  read = get_or s 1 0;
  write = get_or s 2 0;
  beat = get_or s 3 0;
  save = get_or s 4 0;
  multiply = get_or s 0 0;
  spacing = get_or s 5 0;
  window = half_at s 6;
  period = word_at s 8;
}

-- W-202: "Settings may now be two records: six 16-bit numbers (SET, READ, WRITE, BEAT, SAVE, K), then H, P and a zero, 32 bits each."
-- W-204: "The zero in the second settings record becomes the ticks of a multiply".
abbrev pub wide_settings : List ℕ → Settings
wide_settings s = record {
  set = half_at s 0;
  read = half_at s 2;
  write = half_at s 4;
  beat = half_at s 6;
  save = half_at s 8;
  multiply = word_at s 20;
  spacing = half_at s 10;
  window = word_at s 12;
  period = word_at s 16;
}

abbrev pub is_wide : List ℕ → Bool
is_wide s = eqb (length s) wide_length

unfoldable pub settings_of : List ℕ → Settings
settings_of s = cond (is_wide s) (wide_settings s) (narrow_settings s)

-- "All are at least 1; P is at most 1,000,000."; W-202: "H may then reach 1,000,000."; W-204: "a multiply time of 0 or above 65,535 is 6". The other
-- ticks and K have no upper limit but what their bytes hold.
abbrev pub out_of_range : Settings → Bool
out_of_range σ =
    eqb σ.set 0 || eqb σ.read 0 || eqb σ.write 0 || eqb σ.beat 0 || eqb σ.save 0 || eqb σ.multiply 0
    || eqb σ.spacing 0 || eqb σ.window 0 || eqb σ.period 0 || ltb most_ticks σ.window || ltb most_ticks σ.period
    || ltb most_multiply σ.multiply

-- "Refusal 6 now means a length other than 12 or 24, or a bad number."
abbrev pub bad_settings_length : ℕ → Bool
bad_settings_length n = not (eqb n narrow_length) && not (eqb n wide_length)

unfoldable pub bad_settings : List ℕ → Bool
bad_settings s = bad_settings_length (length s) || out_of_range (settings_of s)

-- the 24 bytes of these numbers, where 16 and 32 bits can hold them
unfoldable pub wide_bytes : Settings → List ℕ
wide_bytes σ =
    half_bytes σ.set ++ half_bytes σ.read ++ half_bytes σ.write ++ half_bytes σ.beat ++ half_bytes σ.save ++ half_bytes σ.spacing
    ++ word_bytes σ.window ++ word_bytes σ.period ++ word_bytes σ.multiply
