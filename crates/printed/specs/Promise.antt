-- What the report promises, for every file and every lent buffer.
use Rattle.std.specs.Prelude.{ℕ, ◌≡◌, List, [], ◌∷◌, length, Result}
use Rattle.paper.specs.Words.{◌≠?◌}
use Rattle.paper.specs.Rulings.{Outcome, Rule, ◌⇒◌, ◌at◌, judged}
use Rattle.paper.specs.Promises.{said, Promised, Is, filled}
use Rattle.paper.specs.Parts.{laid}
use Rattle.printed.specs.Sizes.{text_bytes}
use Rattle.printed.specs.Report.{text_of}
use Rattle.paper.specs.declared.refusal.Refusal.{Refusal}

-- 11: a text buffer of another length
abbrev pub text_rules : List ℕ → List Rule
text_rules lent = length lent ≠? text_bytes ⇒ 11 at 0 ∷ []

abbrev pub ruling : List ℕ → List ℕ → Outcome ℕ
ruling file lent = judged (text_rules lent) (length (text_of file))

-- the file's text, and the rest of the buffer as it was
abbrev pub written : List ℕ → List ℕ → List ℕ
written file before = laid before 0 (text_of file)

-- file, the buffer before, the answer, which gives the text's length, the buffer after: accepted, the text is written
abbrev pub Promise : List ℕ → List ℕ → Result ℕ Refusal → List ℕ → Type 0
Promise file before r after = Promised said (Is (ruling file before)) (λ n text. text ≡ written file before) before r after

-- the buffer of an outcome, computed
abbrev pub left : List ℕ → List ℕ → Outcome ℕ → List ℕ
left file before = filled (λ n. written file before) before
