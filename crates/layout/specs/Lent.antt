-- The table of meetings.
use Rattle.std.specs.Prelude.{ℕ}

-- its places
abbrev pub meeting_count : ℕ
meeting_count = 1821
