-- How contracts read the structs of src/values.rt, sense.rt and outcome.rt as the records of Values
-- and Outcomes.
use Rattle.std.specs.Prelude.{List, Result, Ok, Err}
use Rattle.nc_number.specs.declared.cause.Cause.{Cause}
use Rattle.nc_number.specs.declared.value.Var.{Var}
use Rattle.block_values.specs.declared.outcome.Stop.{Stop}
use Rattle.block_values.specs.declared.outcome.Stop.TheVariants as stop
use Rattle.block_values.specs.declared.values.Values as kept
use Rattle.block_values.specs.declared.sense.Sense as sensed
use Rattle.block_values.specs.Outcomes.{Outcome, Gives, Needs, Alarms}
use Rattle.block_values.specs.Values.{Values, Sense}

-- what the words of a block said, as the record of Values
abbrev pub values_seen : kept.Values → Values
values_seen said = record {
  x = said.x;
  z = said.z;
  u = said.u;
  w = said.w;
  i = said.i;
  k = said.k;
  r = said.r;
  feed = said.feed;
  speed = said.speed;
  tool = said.tool;
  number = said.number;
  rest = said.rest;
}

-- what decides the meaning of a word, as the record of Values
abbrev pub sense_seen : sensed.Sense → Sense
sense_seen sense = record { purpose = sense.purpose; arc = sense.arc; setting = sense.setting }

-- what the words said as that record, or the cause for which a word is refused
abbrev pub values_of : Result kept.Values Cause → Result Values Cause
values_of (Ok said) = Ok (values_seen said)
values_of (Err cause) = Err cause

-- how a step of the code ended, as an `Outcome`: what it gives with the reads that are left, or the
-- need, or the alarm
abbrev pub outcome_of : {A B : Type 0} → (A → B) → Result A Stop → List Var → Outcome B
outcome_of seen (Ok value) left = Gives (seen value) left
outcome_of seen (Err (stop.Needs variable)) left = Needs variable
outcome_of seen (Err (stop.Alarms number value)) left = Alarms number value
