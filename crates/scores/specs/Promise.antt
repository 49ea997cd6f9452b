-- What a slot lookup promises.
use Rattle.scores.specs.Scores.{Found, scaled, absent, too_high}
use Rattle.scores.specs.declared.slots.Slot.{Slot}
use Rattle.scores.specs.declared.slots.Slot.TheVariants.{Score, Missing, Over}

-- what each case of a slot lookup means
abbrev pub looked : Slot → Found
looked (Score score) = scaled score.0
looked Missing = absent
looked Over = too_high
