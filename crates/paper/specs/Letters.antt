-- The letters of results, by their codes: A to E, and VET's Y and N.
use Rattle.std.specs.Prelude.{ℕ}

abbrev pub letter_a : ℕ
letter_a = 65

abbrev pub letter_b : ℕ
letter_b = 66

abbrev pub letter_c : ℕ
letter_c = 67

abbrev pub letter_d : ℕ
letter_d = 68

abbrev pub letter_e : ℕ
letter_e = 69

abbrev pub letter_n : ℕ
letter_n = 78

abbrev pub letter_y : ℕ
letter_y = 89
