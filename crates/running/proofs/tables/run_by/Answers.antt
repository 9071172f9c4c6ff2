use Rattle.std.proofs.Math.ListN.{length-replicate}
use Rattle.running.proofs.Files.{table_fills, started_begun}
use Rattle.running.proofs.tables.run_by.Goals as goal

pub fill-requires : goal.fill-requires
fill-requires g c = table_fills c.requires.0 (simp length-replicate c.requires.1)

pub run_records-requires : goal.run_records-requires
run_records-requires g c = started_begun c.requires.0 c.fill.ensures
