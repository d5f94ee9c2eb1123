-- How many digits a short number has.
use Rattle.std.specs.Prelude.{ℕ, if◌then◌else◌, nat_lt}

-- the number of digits of a number below 1,000
abbrev pub digit_count : ℕ → ℕ
digit_count n = if nat_lt n 10 then 1 else if nat_lt n 100 then 2 else 3
