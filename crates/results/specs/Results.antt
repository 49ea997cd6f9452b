-- A student's results: six bytes to each, which are its subject (two), letter, number and year (two).
use Rattle.std.specs.Prelude.{ℕ, ◌+◌, ◌*◌, List}
use Rattle.paper.specs.Limits.{result_bytes}
use Rattle.paper.specs.Bytes.{byte, word, records}
use Rattle.catalogue.specs.Catalogue.{entry_at}
use Rattle.results.specs.declared.reading.StudentResult.{StudentResult}

-- how many whole results there are
abbrev pub held_in : List ℕ → ℕ
held_in results = records result_bytes results

-- the subject of result i is a place in the catalogue, from 0; and its year
abbrev pub subject_of : List ℕ → ℕ → ℕ
subject_of results i = word results (result_bytes * i)

abbrev pub year_of : List ℕ → ℕ → ℕ
year_of results i = word results (result_bytes * i + 4)

-- catalogue, results, i: result i, with the entry of its subject
abbrev pub result_of : List ℕ → List ℕ → ℕ → StudentResult
result_of catalogue results i = record {
  subject = subject_of results i;
  letter = byte results (result_bytes * i + 2);
  number = byte results (result_bytes * i + 3);
  year = year_of results i;
  entry = entry_at catalogue (subject_of results i);
}

-- the catalogue that a student's results name, the assessment year, and the results
pub record Student : Type 0 where
  pub catalogue : List ℕ
  pub year : ℕ
  pub results : List ℕ

abbrev pub student : List ℕ → ℕ → List ℕ → Student
student catalogue year results = record { catalogue = catalogue; year = year; results = results }

-- how many results a student has, and result i
abbrev pub held : Student → ℕ
held s = held_in s.results

abbrev pub result : Student → ℕ → StudentResult
result s i = result_of s.catalogue s.results i
