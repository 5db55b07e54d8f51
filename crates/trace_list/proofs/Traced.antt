-- The text of a trace in the parts in which it is put.
-- The proof of `put_from` (src/tracing.rt) uses it.
use Rattle.std.proofs.Common.{◌≡◌, ℕ, ◌+◌, ◌≤◌, List, ◌∷◌, ◌++◌, length, drop, sym, ap, ◌∙◌, append_assoc, arith}
use Rattle.std.proofs.lemmas.List.{at_drop_all}
use Rattle.std.proofs.lemmas.Grind.{flat_map-append}
use Rattle.nc_number.specs.declared.path.Path.TheVariants.{One, Two}
use Rattle.nc_number.specs.declared.point.Point.{Point}
use Rattle.cell_settings.specs.declared.settings.Settings.{Settings}
use Rattle.tape_flow.specs.declared.flow.Flow.{Flow}
use Rattle.run_records.specs.Entries.{Entry}
use Rattle.path_state.specs.Opening.{point_of}
use Rattle.two_path.specs.declared.turn.Turn.{Turn}
use Rattle.two_path.specs.declared.turn.Turn.TheVariants as turn
use Rattle.two_path.specs.Machine.{MachineView}
use Rattle.two_path.specs.Turns.{Tapes, tapes_of}
use Rattle.two_path.specs.Histories.{behind_entry}
use Rattle.two_path.specs.Again.{turn_of_entry}
use Rattle.nc_outside.specs.declared.reason.Reason.{Reason}
use Rattle.move_list.specs.EndText.{end_text}
use Rattle.two_path.specs.Start.{machine_at_start}
use Rattle.trace_list.specs.Trace.{begin_lines, lines_of, met_after, start_lines, trace_text, traced_lines}
use Rattle.trace_list.specs.TraceText.{head_text, lines_text, trace_line_text}

-- the text of a trace is its first line and how both paths begin, then the events, and the last
-- lines
trace_parts : (tapes : Tapes) (m : MachineView) (entries : List Entry) (reason : Reason)
    → trace_text tapes m entries reason
    ≡ (head_text ++ lines_text (start_lines m)) ++ (lines_text (traced_lines tapes 0 m entries) ++ end_text (length entries) reason)
unfolding trace_text
trace_parts tapes m entries reason =
    let events = lines_text (traced_lines tapes 0 m entries) in
    let last = end_text (length entries) reason in
    ap (λ t. head_text ++ (t ++ last)) (flat_map-append trace_line_text (start_lines m) (traced_lines tapes 0 m entries))
    ∙ ap (λ t. head_text ++ t) (append_assoc (lines_text (start_lines m)) events last)
    ∙ sym (append_assoc head_text (lines_text (start_lines m)) (events ++ last))

-- the text of a trace in these parts, for a machine at its start and the reference positions of the
-- settings
pub start_parts : (left right : Flow) (settings : Settings) (m : MachineView) (one two : Point) (entries : List Entry) (reason : Reason)
    → m ≡ machine_at_start left right settings → one ≡ point_of One settings.home → two ≡ point_of Two settings.home
    → trace_text (tapes_of left right) (machine_at_start left right settings) entries reason
    ≡ (head_text ++ lines_text (begin_lines One one m.paths.one.path ++ begin_lines Two two m.paths.two.path))
    ++ (lines_text (traced_lines (tapes_of left right) 0 m entries) ++ end_text (length entries) reason)
start_parts left right settings m one two entries reason is is_one is_two =
    trace_parts (tapes_of left right) (machine_at_start left right settings) entries reason
    ∙ ap (λ (at : Point). (head_text ++ lines_text (begin_lines One at (machine_at_start left right settings).paths.one.path
    ++ begin_lines Two (point_of Two settings.home) (machine_at_start left right settings).paths.two.path))
    ++ (lines_text (traced_lines (tapes_of left right) 0 (machine_at_start left right settings) entries) ++ end_text (length entries) reason)) (sym is_one)
    ∙ ap (λ (at : Point). (head_text ++ lines_text (begin_lines One one (machine_at_start left right settings).paths.one.path
    ++ begin_lines Two at (machine_at_start left right settings).paths.two.path))
    ++ (lines_text (traced_lines (tapes_of left right) 0 (machine_at_start left right settings) entries) ++ end_text (length entries) reason)) (sym is_two)
    ∙ ap (λ (x : MachineView). (head_text ++ lines_text (begin_lines One one x.paths.one.path ++ begin_lines Two two x.paths.two.path))
    ++ (lines_text (traced_lines (tapes_of left right) 0 x entries) ++ end_text (length entries) reason)) (sym is)

-- the events of the records that are left are those of the first of them, and those of the others
pub record_parts : (tapes : Tapes) (met met' : ℕ) (m m' : MachineView) (left rest : List Entry) (e : Entry) (last : List ℕ)
    → left ≡ e ∷ rest → met' ≡ met_after met (turn_of_entry tapes e m) → m' ≡ behind_entry tapes e m
    → lines_text (traced_lines tapes met m left) ++ last ≡ lines_text (lines_of tapes met m e) ++ (lines_text (traced_lines tapes met' m' rest) ++ last)
unfolding traced_lines
record_parts tapes met met' m m' left rest e last is is_met is_m =
    let there = traced_lines tapes (met_after met (turn_of_entry tapes e m)) (behind_entry tapes e m) rest in
    ap (λ es. lines_text (traced_lines tapes met m es) ++ last) is
    ∙ ap (λ t. t ++ last) (flat_map-append trace_line_text (lines_of tapes met m e) there)
    ∙ append_assoc (lines_text (lines_of tapes met m e)) (lines_text there) last
    ∙ ap (λ n. lines_text (lines_of tapes met m e) ++ (lines_text (traced_lines tapes n (behind_entry tapes e m) rest) ++ last)) (sym is_met)
    ∙ ap (λ (x : MachineView). lines_text (lines_of tapes met m e) ++ (lines_text (traced_lines tapes met' x rest) ++ last)) (sym is_m)

-- after the last record there is no event
pub none_left : (tapes : Tapes) (met : ℕ) (m : MachineView) (entries : List Entry) (i : ℕ) (last : List ℕ) → length entries ≤ i
    → lines_text (traced_lines tapes met m (drop i entries)) ++ last ≡ last
unfolding traced_lines
none_left tapes met m entries i last le = at_drop_all (λ es. lines_text (traced_lines tapes met m es) ++ last) entries i le

-- with at most n meetings before a turn there are at most n + 1 after it
pub met_few : (met n : ℕ) (t : Turn) → met ≤ n → met_after met t ≤ n + 1
met_few met n (turn.Read variable stamp) le = omega (arith, le)
met_few met n (turn.Did moves) le = omega (arith, le)
met_few met n (turn.Arrived code) le = omega (arith, le)
met_few met n (turn.Met code) le = omega (arith, le)
met_few met n (turn.Ended moves) le = omega (arith, le)
met_few met n (turn.Waiting code) le = omega (arith, le)
met_few met n turn.Finished le = omega (arith, le)
met_few met n (turn.Alarm alarm) le = omega (arith, le)
met_few met n (turn.Halted alarm) le = omega (arith, le)
met_few met n turn.Edited le = omega (arith, le)
