-- What the source of an unfolding reads.
use Rattle.std.specs.Prelude.{ℕ}
use Rattle.fragment.specs.declared.source.Source.{Source}
use Rattle.fragment.specs.Readable.{Ranged}
use Rattle.fragment.specs.Unfolding.{Score}

-- the score that a source reads
abbrev pub score_in : Source → Score
score_in s = record { events = s.events.now; base = s.base; limits = s.limits }

abbrev pub HasRange : Source → ℕ → Type 0
HasRange s n = Ranged s.events.now s.nodes n
