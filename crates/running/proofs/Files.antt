-- A sound file: its records are one block, and the table of their closings has room.
use Prim.Native.Nat.{ℕ, ◌≤◌, ◌<◌}
use native.Mathlib.Omega.{arith}
use mathlib.Core.{Path.◌≡◌, List.List}
use lib.ListN.{length}
use Rattle.model.specs.declared.Form.{Form}
use Rattle.model.specs.Trees.{size, file_tree}
use Rattle.laws.proofs.Sound.{Sound, sound_file}
use Rattle.reading.specs.{Closing.Closings, Ranges.SoundFile, Ranges.Fillable}
use Rattle.reading.proofs.{Scanning.most_records, Walking.whole_file}
use Rattle.running.specs.Promises.{extent, Started, Begun}

module _ {f : Form} {s : List ℕ} (S : SoundFile f s) where
  pub file_sound : Sound f s (file_tree s)
  file_sound = sound_file f s S.sound

  pub file_few : extent s ≤ 5461
  file_few = omega (arith, file_sound.whole_records, file_sound.few, most_records f)

  pub file_size : size (file_tree s) ≡ extent s
  file_size = omega (arith, file_sound.whole_records)

module _ {s : List ℕ} {i : ℕ} {ins : List ℕ} {limit t : ℕ} (S : Started s i ins limit t) where
  pub table_fills : {ends : List ℕ} → extent s < length ends → Fillable s (extent s) ends
  table_fills k = record { form = S.form; file = whole_file S.sound; ends = file_size S.sound; few = file_few S.sound; room = k }

  pub started_begun : {ends : List ℕ} → Closings s (extent s) ends → Begun s i (extent s) ends ins limit t
  started_begun T = record { given = record { few = file_few S.sound; table = T; inputs = S.inputs; early = S.early }; form = S.form; chain = S.chain }
