-- Whatever meets the promise on a named student is exactly this answer.
use mathlib.Core.Path.{◌≡◌, ap, ◌∙◌}
use mathlib.Core.List.{[]}
use Rattle.std.proofs.Common.{Result, Ok, Err}
use Rattle.paper.specs.Promises.{answer}
use Rattle.results.specs.Results.{student}
use Rattle.sets.specs.Promise.{Promise}
use Rattle.sets.specs.declared.BestSet.{BestSet}
use Rattle.paper.specs.declared.refusal.Refusal.{Refusal}
use Rattle.paper.specs.declared.refusal.Refusal.TheVariants.{NoSet}
use Rattle.sets.specs.Examples.{seven, eight, nine, table, catalogue2, table2, english10, mature, renewed}
use Rattle.sets.proofs.ByHand.{students, outside-five}
use Rattle.sets.proofs.ByHandYears.{stretches, repeats}
use Rattle.sets.proofs.Meeting.{only}

-- five highest first and rules after would refuse student 7
pub student-7 : (r : Result BestSet Refusal) → Promise seven table r → r ≡ Ok (record { aggregate = 36000; set = 61 })
student-7 r h = only seven table h ∙ ap answer students.0

-- of two clashing subjects dropping the lower would refuse student 8
pub student-8 : (r : Result BestSet Refusal) → Promise eight table r → r ≡ Ok (record { aggregate = 35500; set = 47 })
student-8 r h = only eight table h ∙ ap answer students.1

pub student-9 : (r : Result BestSet Refusal) → Promise nine table r → r ≡ Err NoSet
student-9 r h = only nine table h ∙ ap answer students.2

-- English sought only in the five would refuse this student
pub english-outside : (r : Result BestSet Refusal) → Promise (student catalogue2 2021 english10) table2 r → r ≡ Ok (record { aggregate = 25000; set = 62 })
english-outside r h = only (student catalogue2 2021 english10) table2 h ∙ ap answer outside-five

-- a rule of the last years would refuse this student of 2012 to 2016
pub mature-student : (r : Result BestSet Refusal) → Promise (student catalogue2 2021 (mature 2012 2016 [])) table2 r → r ≡ Ok (record { aggregate = 25000; set = 31 })
mature-student r h = only (student catalogue2 2021 (mature 2012 2016 [])) table2 h ∙ ap answer stretches.0

-- six consecutive years would accept this one
pub of-2011 : (r : Result BestSet Refusal) → Promise (student catalogue2 2021 (mature 2011 2016 [])) table2 r → r ≡ Err NoSet
of-2011 r h = only (student catalogue2 2021 (mature 2011 2016 [])) table2 h ∙ ap answer stretches.1

-- the latest of a subject within each stretch would accept this one
pub of-repeat : (r : Result BestSet Refusal) → Promise (student catalogue2 2021 (renewed 2021)) table2 r → r ≡ Err NoSet
of-repeat r h = only (student catalogue2 2021 (renewed 2021)) table2 h ∙ ap answer repeats.3
