use Rattle.std.proofs.Common.{arith}
use Rattle.running.proofs.Files.{file_few}
use Rattle.running.proofs.tables.run_from.Goals as goal

pub run_by-requires-2 : goal.run_by-requires-2
run_by-requires-2 c = (c.requires, omega (arith, file_few c.requires.sound), omega arith)
