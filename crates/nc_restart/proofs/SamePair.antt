-- Three texts have one pair, as far as its machine goes. The law `a_machine_hangs_on_its_texts`
-- (src/laws.rt), OneRun.antt and OneHistory.antt rest on it.
use Rattle.std.proofs.Common.{◌≡◌, ℕ, List, [], ◌∷◌, map, Ok, sym, ap, subst, ◌∙◌}
use Rattle.nc_number.specs.declared.path.Path.{Path}
use Rattle.nc_number.specs.declared.path.Path.TheVariants.{One, Two}
use Rattle.cell_settings.specs.Cell.{Cell}
use Rattle.cell_settings.specs.View.{view}
use Rattle.common_vars.specs.Common.{none_written}
use Rattle.local_levels.specs.Stack.{base_level}
use Rattle.modal_state.specs.Modal.{opening_modal}
use Rattle.offset_store.specs.Offsets.{no_offsets}
use Rattle.block_order.specs.declared.program.ControlProgram.{ControlProgram}
use Rattle.block_order.specs.Labels.{start}
use Rattle.tape_flow.specs.Controls.{controls}
use Rattle.tape_flow.specs.Forms.{ProgramForm, program_form, programs_read}
use Rattle.path_state.specs.View.{PathView}
use Rattle.path_state.specs.Opening.{with_presets, point_of}
use Rattle.two_path.specs.Machine.{opening}
use Rattle.nc_verify.specs.declared.verified.Verified.{Verified}
use Rattle.nc_verify.specs.Verdict.{Texts, IsFlowOf, AreAccepted, dialect_in}
use Rattle.nc_verify.proofs.NotBoth.{one_flow}
use Rattle.nc_restart.specs.Pair.{IsPairOf, IsSamePair}
use Rattle.nc_restart.proofs.Forms.{blocks_by, blocks_same}

-- a path before its first turn, by the order of its blocks and the cell
abbrev opening_by : List ControlProgram → Cell → Path → PathView
opening_by order cell path = record {
  place = start order;
  calls = [];
  levels = base_level ∷ [];
  own = none_written;
  modal = opening_modal cell.system;
  offsets = with_presets path cell.presets no_offsets;
  position = point_of path cell.place;
  fixed = record { home = point_of path cell.home; shared100 = cell.shared100; shared500 = cell.shared500 };
}

-- texts that are accepted twice have the same cell, and their tapes say the same
one_reading : (texts : Texts) (cell other : Cell) (left right left' right' : List ProgramForm) → AreAccepted texts cell left right
    → AreAccepted texts other left' right' → (cell ≡ other) × (left ≡ left') × (right ≡ right')
one_reading texts cell other left right left' right' is also =
    let both : Ok cell ≡ Ok other = sym is.flows.settings_are ∙ also.flows.settings_are in
    let same : cell ≡ other = cc in
    let one : IsFlowOf other One texts.left left = subst (λ c. IsFlowOf c One texts.left left) same is.flows.left_is in
    let two : IsFlowOf other Two texts.right right = subst (λ c. IsFlowOf c Two texts.right right) same is.flows.right_is in
    (same, one_flow other One texts.left left left' one also.flows.left_is, one_flow other Two texts.right right right' two also.flows.right_is)

-- three accepted texts have one pair, as far as its machine goes
pub same_pair : (texts : Texts) (pair other : Verified) → IsPairOf texts pair → IsPairOf texts other → IsSamePair pair other
same_pair texts pair other is also =
    let same = one_reading texts (view pair.settings) (view other.settings) (map program_form pair.left.programs) (map program_form pair.right.programs)
    (map program_form other.left.programs) (map program_form other.right.programs) is also in
    let left_order : pair.left.order ≡ other.left.order = pair.left.agrees ∙ ap controls same.1 ∙ sym other.left.agrees in
    let right_order : pair.right.order ≡ other.right.order = pair.right.agrees ∙ ap controls same.2 ∙ sym other.right.agrees in
    let left = blocks_same pair.left ∙ ap blocks_by same.1 ∙ sym (blocks_same other.left) in
    let right = blocks_same pair.right ∙ ap blocks_by same.2 ∙ sym (blocks_same other.right) in
    record {
      tapes = λ i. record { one = left i; two = right i };
      opening = λ i. opening (opening_by (left_order i) (same.0 i) One) (opening_by (right_order i) (same.0 i) Two);
      records = ap (λ (c : Cell). c.records) same.0;
      left = same.1;
      right = same.2;
    }
