-- The races of a pair depend on what its tapes say (the forms of their blocks), and not on where
-- that lies in memory.
use Rattle.std.proofs.Common.{◌≡◌, ◌==◌, ℕ, zero, suc, Bool, true, false, find, List, [], ◌∷◌, map, Option, Some, None, slice_get, refl, ap, sym, subst, ◌∙◌}
use Rattle.std.specs.Option.{option_map}
use Rattle.nc_number.specs.declared.path.Path.{Path}
use Rattle.nc_number.specs.declared.path.Path.TheVariants.{One, Two}
use Rattle.block_forms.specs.declared.block.FlowBlock.{FlowBlock}
use Rattle.block_forms.specs.declared.body.FlowBody.{FlowBody}
use Rattle.block_forms.specs.declared.body.FlowBody.TheVariants.{Words, Statement}
use Rattle.block_forms.specs.Forms.{Form, OfWords, OfSentence, BlockForm}
use Rattle.block_forms.specs.Views.{form_of}
use Rattle.block_forms.specs.Blocks.{block_form}
use Rattle.tape_flow.specs.declared.flow.Flow.{Flow}
use Rattle.tape_flow.specs.declared.program.FlowProgram.{FlowProgram}
use Rattle.tape_flow.specs.Controls.{controls}
use Rattle.tape_flow.specs.Forms.{ProgramForm, program_form}
use Rattle.tape_flow.specs.Places.{flow_block}
use Rattle.part_order.specs.Parts.{IsInPart}
use Rattle.named_vars.specs.Names.{body_names, body_may_write, words_name, sentence_names, sentence_may_write, found_names, found_may_write}
use Rattle.race_order.specs.Races.{IsRace, PartNames, PartMayWrite}
use Rattle.race_report.specs.declared.race.Race.{Race}
use Rattle.race_report.specs.RaceLists.{MayWriteAt, NamesAt, writer_of, other_of, IsRaceAt, IsFirstRace, AreFirst, IsRaceList}
use Rattle.race_report.proofs.SoughtLines.{part_writes_at, part_names_at}
use Rattle.race_report.proofs.OneList.{one_list}

-- the form of a block names the variable
abbrev form_names : Form → ℕ → Bool
form_names (OfWords dialect words) v = words_name words v
form_names (OfSentence sentence) v = sentence_names sentence v

-- a block of this form may write the variable
abbrev form_may_write : Form → ℕ → Bool
form_may_write (OfWords dialect words) v = false
form_may_write (OfSentence sentence) v = sentence_may_write sentence v

-- a block names the variables that its form names
names_by_form : (body : FlowBody) (v : ℕ) → body_names body v ≡ form_names (form_of body) v
names_by_form (Words words) v = refl
names_by_form (Statement statement) v = refl

-- a block may write the variables that its form may write
writes_by_form : (body : FlowBody) (v : ℕ) → body_may_write body v ≡ form_may_write (form_of body) v
writes_by_form (Words words) v = refl
writes_by_form (Statement statement) v = refl

-- the forms of the blocks of a program, and none of no program
abbrev form_blocks : Option ProgramForm → List BlockForm
form_blocks None = []
form_blocks (Some program) = program.blocks

-- the form of the block at a place of the program with this O number
abbrev form_at : List ProgramForm → ℕ → ℕ → Option BlockForm
form_at programs q place = slice_get (form_blocks (find (λ program. program.number == q) programs)) place

-- the form of the block at a place of a list is that of the list of forms
get_mapped : (blocks : List FlowBlock) (place : ℕ) → option_map block_form (slice_get blocks place) ≡ slice_get (map block_form blocks) place
get_mapped [] place = refl
get_mapped (b ∷ blocks) zero = refl
get_mapped (b ∷ blocks) (suc place) = get_mapped blocks place

-- the form of the block at a place of a flow is that of the forms of its programs
at_forms : (programs : List FlowProgram) (q place : ℕ) → option_map block_form (flow_block programs q place) ≡ form_at (map program_form programs) q place
at_forms [] q place = refl
at_forms (p ∷ programs) q place = go (p.number == q) refl (at_forms programs q place)
  where
    go : (b : Bool) → (p.number == q) ≡ b → option_map block_form (flow_block programs q place) ≡ form_at (map program_form programs) q place
        → option_map block_form (flow_block (p ∷ programs) q place) ≡ form_at (map program_form (p ∷ programs)) q place
    go true e rest = rw e (get_mapped p.blocks place)
    go false e rest = rw e rest

-- two flows whose programs say the same
module _ (a b : Flow) (same : map program_form a.programs ≡ map program_form b.programs) where
  -- their blocks have one order
  order_same : a.order ≡ b.order
  order_same = a.agrees ∙ (ap controls same ∙ sym b.agrees)

  -- at each place of each program their blocks have one form
  forms_same : (q place : ℕ) → option_map block_form (flow_block a.programs q place) ≡ option_map block_form (flow_block b.programs q place)
  forms_same q place = at_forms a.programs q place ∙ (ap (λ forms. form_at forms q place) same ∙ sym (at_forms b.programs q place))

  -- the other flow has a block of the same form at the same place
  record IsTwin (q place : ℕ) (block : FlowBlock) : Type 0 where
    other : FlowBlock
    at : flow_block b.programs q place ≡ Some other
    form : block_form block ≡ block_form other

  -- each block of the one has its twin in the other
  twin : (q place : ℕ) (block : FlowBlock) → flow_block a.programs q place ≡ Some block → IsTwin q place block
  twin q place block at = go (flow_block b.programs q place) refl
    where
      go : (found : Option FlowBlock) → flow_block b.programs q place ≡ found → IsTwin q place block
      go None e =
          let none : Some (block_form block) ≡ None = sym (ap (option_map block_form) at) ∙ (forms_same q place ∙ ap (option_map block_form) e) in absurd cc
      go (Some other) e =
          let some : Some (block_form block) ≡ Some (block_form other) = sym (ap (option_map block_form) at) ∙ (forms_same q place ∙ ap (option_map block_form) e) in
          record { other = other; at = e; form = cc }

  -- a block of part n of the one is one of part n of the other
  in_part : (n q place : ℕ) → IsInPart a.order n q place → IsInPart b.order n q place
  in_part n q place inside = subst (λ order. IsInPart order n q place) order_same inside

  -- if part n of the one has a block of line k that may write the variable, so has the other
  writes_too : (n v k : ℕ) → MayWriteAt a n v k → MayWriteAt b n v k
  writes_too n v k (q, place, block, inside, at, e, line) =
      let t = twin q place block at in
      let here : body_may_write block.body v ≡ true = subst (λ found. found_may_write found v ≡ true) at e in
      let there : body_may_write t.other.body v ≡ true =
      writes_by_form t.other.body v ∙ (ap (λ form. form_may_write form v) (sym (ap (λ f. f.form) t.form)) ∙ (sym (writes_by_form block.body v) ∙ here)) in
      (q, place, t.other, in_part n q place inside, t.at, subst (λ found. found_may_write found v ≡ true) (sym t.at) there, sym (ap (λ f. f.line) t.form) ∙ line)

  -- if part n of the one has a block of line k that names the variable, so has the other
  names_too : (n v k : ℕ) → NamesAt a n v k → NamesAt b n v k
  names_too n v k (q, place, block, inside, at, e, line) =
      let t = twin q place block at in
      let here : body_names block.body v ≡ true = subst (λ found. found_names found v ≡ true) at e in
      let there : body_names t.other.body v ≡ true =
      names_by_form t.other.body v ∙ (ap (λ form. form_names form v) (sym (ap (λ f. f.form) t.form)) ∙ (sym (names_by_form block.body v) ∙ here)) in
      (q, place, t.other, in_part n q place inside, t.at, subst (λ found. found_names found v ≡ true) (sym t.at) there, sym (ap (λ f. f.line) t.form) ∙ line)

  -- if part n of the one may write the variable, so may that of the other
  part_writes_too : (n v : ℕ) → PartMayWrite a n v → PartMayWrite b n v
  part_writes_too n v part =
      let at = part_writes_at a n v part in
      let too = writes_too n v at.0 at.1 in (too.0, too.1, too.3, too.5)

  -- if part n of the one names the variable, so does that of the other
  part_names_too : (n v : ℕ) → PartNames a n v → PartNames b n v
  part_names_too n v part =
      let at = part_names_at a n v part in
      let too = names_too n v at.0 at.1 in (too.0, too.1, too.3, too.5)

-- tapes of the same forms have the same races
race_too : (shared : ℕ → Bool) (a b c d : Flow) → map program_form a.programs ≡ map program_form b.programs
    → map program_form c.programs ≡ map program_form d.programs → (n v : ℕ) → IsRace shared a c n v → IsRace shared b d n v
race_too shared a b c d ab cd n v is = record {
  is_shared = is.is_shared;
  writes = part_writes_too a b ab n v is.writes;
  names = part_names_too c d cd n v is.names;
}

-- Two pairs whose tapes say the same (`l`, `r`): `left` and `right`, and `left'` and `right'`.
module _ (shared : ℕ → Bool) (left left' right right' : Flow) (l : map program_form left.programs ≡ map program_form left'.programs)
    (r : map program_form right.programs ≡ map program_form right'.programs) where
  -- a race of the one pair, of these lines, is one of the other
  at_too : (race : Race) (p : Path) → race.writer ≡ p → IsRaceAt shared left right race → IsRaceAt shared left' right' race
  at_too race One e is = record {
    is_shared = is.is_shared;
    writes = subst (λ q. MayWriteAt (writer_of q left' right') race.after race.variable race.write_line) (sym e)
        (writes_too left left' l race.after race.variable race.write_line
        (subst (λ q. MayWriteAt (writer_of q left right) race.after race.variable race.write_line) e is.writes));
    names = subst (λ q. NamesAt (other_of q left' right') race.after race.variable race.other_line) (sym e)
        (names_too right right' r race.after race.variable race.other_line
        (subst (λ q. NamesAt (other_of q left right) race.after race.variable race.other_line) e is.names));
  }
  at_too race Two e is = record {
    is_shared = is.is_shared;
    writes = subst (λ q. MayWriteAt (writer_of q left' right') race.after race.variable race.write_line) (sym e)
        (writes_too right right' r race.after race.variable race.write_line
        (subst (λ q. MayWriteAt (writer_of q left right) race.after race.variable race.write_line) e is.writes));
    names = subst (λ q. NamesAt (other_of q left' right') race.after race.variable race.other_line) (sym e)
        (names_too left left' l race.after race.variable race.other_line
        (subst (λ q. NamesAt (other_of q left right) race.after race.variable race.other_line) e is.names));
  }

-- Two pairs whose tapes say the same, as above: what holds of races holds of first races and lists.
module _ (shared : ℕ → Bool) (left left' right right' : Flow) (l : map program_form left.programs ≡ map program_form left'.programs)
    (r : map program_form right.programs ≡ map program_form right'.programs) where
  -- a first race of the one pair is one of the other
  first_too : (race : Race) → IsFirstRace shared left right race → IsFirstRace shared left' right' race
  first_too race is = record {
    is = at_too shared left left' right right' l r race race.writer refl is.is;
    first = λ other v there. is.first other v (at_too shared left' left right' right (sym l) (sym r) other other.writer refl there);
  }

  -- a list of first races of the one pair is one of the other
  firsts_too : (races : List Race) → AreFirst shared left right races → AreFirst shared left' right' races
  firsts_too [] all = tt
  firsts_too (race ∷ races) all = (first_too race all.0, firsts_too races all.1)

  -- the list of the races of the one pair is that of the other
  list_too : (races : List Race) → IsRaceList shared left right races → IsRaceList shared left' right' races
  list_too races list = record {
    rising = list.rising;
    firsts = firsts_too races list.firsts;
    one = λ n v is. list.one n v (race_too shared left' left right' right (sym l) (sym r) n v is);
    two = λ n v is. list.two n v (race_too shared right' right left' left (sym r) (sym l) n v is);
  }

-- pairs whose tapes say the same, and which share the same variables, have one list
pub same_list : (shared shared' : ℕ → Bool) (left left' right right' : Flow) → shared ≡ shared'
    → map program_form left.programs ≡ map program_form left'.programs → map program_form right.programs ≡ map program_form right'.programs
    → (races others : List Race) → IsRaceList shared left right races → IsRaceList shared' left' right' others → races ≡ others
same_list shared shared' left left' right right' same l r races others one two =
    one_list shared' left' right' races others
    (subst (λ s. IsRaceList s left' right' races) same (list_too shared left left' right right' l r races one)) two
