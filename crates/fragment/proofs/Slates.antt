-- Slates with their first bytes at 0.
use Rattle.std.proofs.Common.{◌≡◌, ℕ, List, length, take, drop, replicate}
use Rattle.std.proofs.lemmas.List.{take_at, length-replicate}
use Rattle.fragment.specs.Slate.{blank, wiped}

pub wiped_take : (s : List ℕ) → take 256 (wiped s) ≡ blank
unfolding blank wiped
wiped_take s = take_at (replicate 256 0) (drop 256 s) 256 (length-replicate {A = ℕ} 256 0)

pub blank_length : length blank ≡ 256
unfolding blank
blank_length = length-replicate {A = ℕ} 256 0
