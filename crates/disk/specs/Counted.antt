-- One more, up to what the counts of reads and writes can say. Assumes nothing.
use Rattle.std.specs.Prelude.{ℕ, ◌+◌, min}

abbrev pub counted : ℕ → ℕ
counted n = min 65535 (n + 1)
