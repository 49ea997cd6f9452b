-- The kinds of subjects, their strands and levels, by name.
use Rattle.std.specs.Prelude.{ℕ, ◌≡◌, Bool, false, ◌||◌, Result, MatchResult}
use Rattle.paper.specs.Words.{◌=?◌}
use Rattle.paper.specs.Ranges.{within}
use Rattle.catalogue.specs.declared.kinds.Kind.{Kind}
use Rattle.catalogue.specs.declared.kinds.Kind.TheVariants.{General, Extension, ExternalExamination, Applied, ShortCourse, Vet}
use Rattle.catalogue.specs.declared.kinds.NoKind.{NoKind}

-- General, General extension and Senior External Examination, which count as General; Applied, short course, VET
abbrev pub general : ℕ
general = 1

abbrev pub extension : ℕ
extension = 2

abbrev pub external_examination : ℕ
external_examination = 3

abbrev pub applied : ℕ
applied = 4

abbrev pub short_course : ℕ
short_course = 5

abbrev pub vet : ℕ
vet = 6

-- the number of a kind
abbrev pub number : Kind → ℕ
number General = general
number Extension = extension
number ExternalExamination = external_examination
number Applied = applied
number ShortCourse = short_course
number Vet = vet

-- number, result: the kind that has the number; or the number, where no kind has it
abbrev pub Names : ℕ → Result Kind NoKind → Type 0
Names n r = MatchResult r (λ kind. number kind ≡ n) (λ none. (none.0 ≡ n) × (within general vet n ≡ false))

-- the strands; 0 is none
abbrev pub english : ℕ
english = 1

abbrev pub mathematics : ℕ
mathematics = 2

-- the levels of VET, from Certificate I to the Advanced Diploma; Certificate III
abbrev pub certificate_i : ℕ
certificate_i = 1

abbrev pub certificate_iii : ℕ
certificate_iii = 3

abbrev pub advanced_diploma : ℕ
advanced_diploma = 6

-- kinds 1 to 3 count as General
abbrev pub is_general : ℕ → Bool
is_general kind = within general external_examination kind

abbrev pub is_applied : ℕ → Bool
is_applied kind = kind =? applied

abbrev pub is_vet : ℕ → Bool
is_vet kind = kind =? vet

-- General and external examinations have an identity; a subject and its external examination share one
abbrev pub is_identified : ℕ → Bool
is_identified kind = kind =? general || kind =? external_examination
