-- What a call that makes a command answers: the command of the grammar, `Usage`, or out of memory.
-- src/making.rt states its calls by this; the grammar is in Listed. A further option needs its line
-- in `texts_seen` (src/option_texts.rt names the other places).
use Rattle.std.specs.Prelude.{◌≡◌, ⊤, Option, Some, None, Result, Ok, Err, option_map}
use Rattle.command_words.specs.Listed.{OptionTextsView}
use Rattle.command_words.specs.declared.option_texts.OptionTexts.{OptionTexts}
use Rattle.command_words.specs.declared.fault.WordsFault.{WordsFault}
use Rattle.command_words.specs.declared.fault.WordsFault.TheVariants.{Usage, NoMemory}

-- the answer is the value, or Usage if there is none; if memory ran out, nothing is said
abbrev pub Answers : {T : Type 0} → Option T → Result T WordsFault → Type 0
Answers value (Ok x) = value ≡ Some x
Answers value (Err Usage) = value ≡ None
Answers value (Err NoMemory) = ⊤

-- the texts of the options, as clauses see them
abbrev pub texts_seen : OptionTexts → OptionTextsView
texts_seen texts = record {
  blocks = option_map (λ s. s.now) texts.blocks;
  turret1 = option_map (λ s. s.now) texts.turret1;
  turret2 = option_map (λ s. s.now) texts.turret2;
  outside = option_map (λ s. s.now) texts.outside;
}
