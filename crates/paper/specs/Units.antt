-- The parts of one in which the paper counts: aggregates in hundredths, percentiles in thousandths, scores and rates in ten-thousandths,
-- participation in millionths.
use Rattle.std.specs.Prelude.{ℕ}

abbrev pub hundredths : ℕ
hundredths = 100

abbrev pub thousandths : ℕ
thousandths = 1000

abbrev pub ten_thousandths : ℕ
ten_thousandths = 10000

abbrev pub millionths : ℕ
millionths = 1000000
