-- If a block of words reads in full and names no interrupt (M96, M97 or M198), no refusal of the
-- open reading holds of it, and it leads where the full reading says. For Widened.
use Rattle.std.proofs.Common.{◌≡◌, ℕ, Bool, true, false, cond, not, ◌&&◌, ◌||◌, ◌*◌, ◌==◌, List, [], ℤ, pos, Option, Some, None, refl, sym, ◌∙◌, ap, subst}
use Rattle.std.specs.Prelude.{codes, if◌then◌else◌}
use Rattle.std.specs.List.{list_any, list_all, filter_map}
use Rattle.nc_number.specs.declared.cause.Cause.TheVariants.{TooManyDigits, NotFixed, UnknownCode, WaitNotAlone, WaitPaths, TwoM, BadCall, AxisTwice, WordRange}
use Rattle.line_text.specs.declared.body.Word.{Word}
use Rattle.code_tables.specs.declared.row.Row.{Row}
use Rattle.code_tables.specs.declared.system.System.{System}
use Rattle.code_tables.specs.declared.system.System.TheVariants.{A, B}
use Rattle.code_tables.specs.Systems.{rows_of_system}
use Rattle.code_tables.specs.declared.kind.CodeKind.{CodeKind}
use Rattle.code_tables.specs.declared.kind.CodeKind.TheVariants as kind
use Rattle.block_words.specs.declared.dialect.Dialect.{Dialect}
use Rattle.block_words.specs.declared.word.FlowWord.{FlowWord}
use Rattle.block_words.specs.declared.purpose.Purpose.{Purpose}
use Rattle.block_words.specs.declared.purpose.Purpose.TheVariants as purpose
use Rattle.block_words.specs.Words as read
use Rattle.block_words.specs.Codes.{gives, is_dwell, is_setting, is_macro_call, has_code, one_shot, purpose_by, purpose_of}
use Rattle.block_words.specs.Codes as read_codes
use Rattle.block_words.specs.declared.range.Range.TheVariants.{Between}
use Rattle.block_words.specs.Ranges.{range_of, is_in_range}
use Rattle.block_forms.specs.Controls.{end_or_next, control_of_words, control_by as full_control_by}
use Rattle.block_words.specs.Purposes as asked
use Rattle.block_forms.specs.Refusals as closed
use Rattle.open_forms.specs.declared.role.Role.{Role}
use Rattle.open_forms.specs.declared.role.Role.TheVariants as role
use Rattle.open_forms.specs.Words.{words_of, has_computed, numbers_of}
use Rattle.open_forms.specs.Controls.{control_by}
use Rattle.open_forms.specs.Codes.{is_g, g_values, has_g, m_codes, has_m, has_wait, is_refused_g, is_refused_m, is_macro, cycle_of, role_of}
use Rattle.open_forms.specs.Refusals.{fixed_letters, is_long, is_not_fixed, is_parameter, writes_parameters, is_beside_a_call, begins_macro_call, is_unknown_by, is_contour, is_crowded, is_unknown, waits_there, is_wait_not_alone, is_wait_of_others, has_two_m, uses_p, is_bad_call_by, is_bad_call, are_in, is_in_range_by, is_out_of_range, refusal_of}
use Rattle.open_forms.specs.Widening.{names_interrupt}
use Rattle.open_forms.proofs.ReadWords.{AreSaid, none, one_more, same_words_of, same_has, same_count, same_computed, none_long, same_numbers, same_last, same_row}
use Rattle.open_forms.proofs.TableRows.{in_each, same_kind, macro_is, setting_is, same_takes, no_such_g, each_has_row}
use Rattle.nc_number.proofs.Bools.{and_false, neither, not_false, or_true}
use Rattle.open_forms.proofs.AmongLetters.{HaveRange, AreAmong, one_among, front_among, fewer_computed, none_of, none_computed, range_of_one, range_of_two, all_fit, all_within, within_more, no_parameters}

-- None of these refusals of the full reading holds of the words. 62 is left out: the open reading
-- does not ask it.
pub record IsAccepted (dialect : Dialect) (words : List FlowWord) : Type 0 where
  -- 54 does not hold.
  pub fixed : closed.is_not_fixed dialect words ≡ false
  -- 56 does not hold.
  pub known : closed.is_unknown dialect.system words ≡ false
  -- 57 does not hold.
  pub alone : closed.is_wait_not_alone dialect words ≡ false
  -- 58 does not hold.
  pub both : closed.is_wait_of_others dialect words ≡ false
  -- 59 does not hold.
  pub one_m : closed.has_two_m dialect.system words ≡ false
  -- 61 does not hold.
  pub good_call : closed.is_bad_call dialect words ≡ false
  -- 64 does not hold.
  pub ranges : closed.is_out_of_range dialect words ≡ false

-- If the full reading refuses nothing, none of these refusals holds.
pub accepted : (dialect : Dialect) (words : List FlowWord) → closed.refusal_of dialect words ≡ None → IsAccepted dialect words
accepted dialect words e =
    go (closed.is_not_fixed dialect words) (closed.is_unknown dialect.system words) (closed.is_wait_not_alone dialect words) (closed.is_wait_of_others dialect words) (closed.has_two_m dialect.system words) (closed.is_bad_call dialect words) (closed.has_axis_twice dialect.system words) (closed.is_out_of_range dialect words) refl refl refl refl refl refl refl e
  where
    go : (a b c d e f g h : Bool) → closed.is_not_fixed dialect words ≡ a → closed.is_unknown dialect.system words ≡ b → closed.is_wait_not_alone dialect words ≡ c
        → closed.is_wait_of_others dialect words ≡ d → closed.has_two_m dialect.system words ≡ e → closed.is_bad_call dialect words ≡ f → closed.is_out_of_range dialect words ≡ h
        → (if a then Some NotFixed else if b then Some UnknownCode else if c then Some WaitNotAlone else if d then Some WaitPaths
        else if e then Some TwoM else if f then Some BadCall else if g then Some AxisTwice else if h then Some WordRange else None) ≡ None
        → IsAccepted dialect words
    go false false false false false false false false fixed known alone both one_m good ranges open_all =
        record { fixed = fixed; known = known; alone = alone; both = both; one_m = one_m; good_call = good; ranges = ranges }
    go true b c d e f g h _ _ _ _ _ _ _ open_all = absurd (cc)
    go false true c d e f g h _ _ _ _ _ _ _ open_all = absurd (cc)
    go false false true d e f g h _ _ _ _ _ _ _ open_all = absurd (cc)
    go false false false true e f g h _ _ _ _ _ _ _ open_all = absurd (cc)
    go false false false false true f g h _ _ _ _ _ _ _ open_all = absurd (cc)
    go false false false false false true g h _ _ _ _ _ _ _ open_all = absurd (cc)
    go false false false false false false true h _ _ _ _ _ _ _ open_all = absurd (cc)
    go false false false false false false false true _ _ _ _ _ _ _ open_all = absurd (cc)

-- The purpose is one of a block that is no call, no return and no wait: a dwell, a setting, or
-- none.
abbrev pub is_left : Purpose → Bool
is_left purpose.Dwell = true
is_left purpose.Setting = true
is_left purpose.Other = true
is_left _ = false

-- What the one-shot code in force makes of P and L is such a purpose.
left : (k : Option CodeKind) → is_left (purpose_by k) ≡ true
left None = refl
left (Some kind.Rapid) = refl
left (Some kind.Feed) = refl
left (Some kind.ArcCw) = refl
left (Some kind.ArcCcw) = refl
left (Some kind.Thread) = refl
left (Some kind.CycleTurn) = refl
left (Some kind.CycleThread) = refl
left (Some kind.CycleFace) = refl
left (Some kind.Surface) = refl
left (Some kind.Spindle) = refl
left (Some kind.PerMin) = refl
left (Some kind.PerRev) = refl
left (Some kind.Inch) = refl
left (Some kind.Metric) = refl
left (Some kind.NoseOff) = refl
left (Some kind.NoseOn) = refl
left (Some kind.Work) = refl
left (Some kind.Dwell) = refl
left (Some kind.Setting) = refl
left (Some kind.Home) = refl
left (Some kind.Limit) = refl
left (Some kind.Machine) = refl
left (Some kind.MacroCall) = refl
left (Some kind.Absolute) = refl
left (Some kind.Incremental) = refl
left (Some kind.Idle) = refl

-- The role of a block in the open reading and its purpose in the full one are of the same kind.
pub data IsSame (system : System) (words : List FlowWord) : Role → Purpose → Type 0 where
  -- Both are a macro call.
  macro : gives system is_macro_call words ≡ true → IsSame system words role.MacroCall purpose.MacroCall
  -- Both are a call of a subprogram.
  subprogram : gives system is_macro_call words ≡ false → has_code 98 words ≡ true → IsSame system words role.Subprogram purpose.Subprogram
  -- Both are a return.
  returns : gives system is_macro_call words ≡ false → has_code 99 words ≡ true → IsSame system words role.Return purpose.Return
  -- Both are a wait.
  wait : gives system is_macro_call words ≡ false → IsSame system words role.Wait purpose.Wait
  -- The role is an end, and the purpose is left.
  ends : (p : Purpose) → gives system is_macro_call words ≡ false → (has_code 2 words || has_code 30 words) ≡ true → is_left p ≡ true
      → IsSame system words role.End p
  -- The block goes on to the next one, and the purpose is left.
  onward : (p : Purpose) → gives system is_macro_call words ≡ false → (has_code 2 words || has_code 30 words) ≡ false → is_left p ≡ true
      → IsSame system words role.Other p

-- The role of a block in the open reading and its purpose in the full one, which are of the same
-- kind.
pub record HaveRole (dialect : Dialect) (texts : List Word) (words : List FlowWord) : Type 0 where
  -- The role in the open reading.
  pub role : Role
  -- The purpose in the full one.
  pub purpose : Purpose
  -- It is the role of the block.
  pub role_is : role_of dialect texts ≡ role
  -- It is the purpose of the block.
  pub purpose_is : purpose_of dialect words ≡ purpose
  -- Both are of the same kind.
  pub same : IsSame dialect.system words role purpose

-- A purpose that is left is no macro call.
left_plain : (p : Purpose) → is_left p ≡ true → read_codes.is_macro p ≡ false
left_plain purpose.MacroCall e = absurd (cc)
left_plain purpose.Subprogram e = refl
left_plain purpose.Return e = refl
left_plain purpose.Wait e = refl
left_plain purpose.Dwell e = refl
left_plain purpose.Setting e = refl
left_plain purpose.Other e = refl

-- P and L are among the letters that must be written out.
pl_among : AreAmong (codes "PL") (codes "GNOPL")
pl_among letter is = go (80 == letter) (76 == letter) is
  where
    go : (a b : Bool) → (a || (b || false)) ≡ true → ((71 == letter) || ((78 == letter) || ((79 == letter) || (a || (b || false))))) ≡ true
    go a b e = rw e (last (71 == letter) (78 == letter) (79 == letter))
      where
        last : (x y z : Bool) → (x || (y || (z || true))) ≡ true
        last true y z = refl
        last false true z = refl
        last false false true = refl
        last false false false = refl

-- The letters of each system are among those of system A.
known_among : (system : System) → AreAmong (closed.known_letters system) (codes "XZUWIKRFSTNOMGPL")
known_among A letter is = is
known_among B letter is =
    go (88 == letter) (90 == letter) (85 == letter) (87 == letter) (read.is_one_of (codes "IKRFSTNOMGPL") letter) is
  where
    go : (x z u w rest : Bool) → (x || (z || rest)) ≡ true → (x || (z || (u || (w || rest)))) ≡ true
    go true z u w rest e = refl
    go false true u w rest e = refl
    go false false true w rest e = refl
    go false false false true rest e = refl
    go false false false false rest e = e

-- A block of these words, as the full reading has them.
module _ (dialect : Dialect) (words : List FlowWord) where
  -- A block of a purpose that is left ends the path or goes on to the next block.
  left_leads : (p : Purpose) → is_left p ≡ true → full_control_by p dialect words ≡ end_or_next words
  left_leads purpose.MacroCall e = absurd (cc)
  left_leads purpose.Subprogram e = absurd (cc)
  left_leads purpose.Return e = absurd (cc)
  left_leads purpose.Wait e = absurd (cc)
  left_leads purpose.Dwell e = refl
  left_leads purpose.Setting e = refl
  left_leads purpose.Other e = refl

-- A block that both readings read: its texts as the open one has them, the words that they say
-- (`are`), and that no refusal of the full one holds (`given`).
module _ (dialect : Dialect) (texts : List Word) (words : List FlowWord) (are : AreSaid texts words) (given : IsAccepted dialect words) where
  -- Both readings see the same macro call.
  macro_same : is_macro texts ≡ gives dialect.system is_macro_call words
  macro_same = same_kind dialect.system is_macro_call 65 (macro_is dialect.system) _ _ (same_words_of (codes "G") texts words are)

  -- Both readings see the same setting of an offset (10,000,000 millionths are G10).
  setting_same : has_g 10000000 texts ≡ gives dialect.system is_setting words
  setting_same = same_kind dialect.system is_setting 10 (setting_is dialect.system) _ _ (same_words_of (codes "G") texts words are)

  -- Both readings see the same M codes.
  pub codes_same : m_codes texts ≡ read_codes.m_codes words
  codes_same = same_numbers (codes "M") texts words are

  -- The G words of the block are written out.
  g_plain : read.has_computed (codes "G") words ≡ false
  g_plain = go (purpose_of dialect words) given.fixed
    where
      go : (p : Purpose) → read.has_computed (asked.fixed_letters p) words ≡ false → read.has_computed (codes "G") words ≡ false
      go purpose.MacroCall e = fewer_computed (codes "G") (codes "GNOPL") (one_among 71 (codes "GNOPL") refl) words e
      go purpose.Subprogram e = fewer_computed (codes "G") (codes "GNOMPL") (one_among 71 (codes "GNOMPL") refl) words e
      go purpose.Return e = fewer_computed (codes "G") (codes "GNOMPL") (one_among 71 (codes "GNOMPL") refl) words e
      go purpose.Setting e = fewer_computed (codes "G") (codes "GNOML") (one_among 71 (codes "GNOML") refl) words e
      go purpose.Wait e = fewer_computed (codes "G") (codes "GNOM") (one_among 71 (codes "GNOM") refl) words e
      go purpose.Dwell e = fewer_computed (codes "G") (codes "GNOM") (one_among 71 (codes "GNOM") refl) words e
      go purpose.Other e = fewer_computed (codes "G") (codes "GNOM") (one_among 71 (codes "GNOM") refl) words e

  -- The system knows each code and each letter of the block, and the control refuses none of the
  -- codes.
  record IsKnown : Type 0 where
    -- no G word that is written out is of an unknown or refused code
    codes_are : list_any (closed.is_unknown_code dialect.system) (read.words_of (codes "G") words) ≡ false
    -- each letter has a meaning
    letters_are : list_any (λ (w : FlowWord). closed.is_unknown_letter dialect.system words w.letter) words ≡ false

  -- Outside macro calls the system knows each code and each letter of the block.
  known_there : gives dialect.system is_macro_call words ≡ false → IsKnown
  known_there no_macro = go (gives dialect.system is_macro_call words) refl given.known
    where
      go : (b : Bool) → gives dialect.system is_macro_call words ≡ b
          → cond b (not (closed.begins_macro_call dialect.system words))
          ((list_any (closed.is_unknown_code dialect.system) (read.words_of (codes "G") words) || list_any (λ (w : FlowWord). closed.is_unknown_letter dialect.system words w.letter) words)
          || (closed.is_bad_limit dialect.system words || closed.is_bad_machine dialect.system words)) ≡ false → IsKnown
      go true e all = absurd (cc)
      go false e all = let both = neither _ _ (neither _ _ all).0 in record { codes_are = both.0; letters_are = both.1 }

  -- Outside macro calls no G code of the block passes a test that no code of either table passes.
  no_g : gives dialect.system is_macro_call words ≡ false → (p : ℤ → Bool)
      → list_all (λ (row : Row). not (p (pos (row.code * 1000000)))) (rows_of_system A) ≡ true
      → list_all (λ (row : Row). not (p (pos (row.code * 1000000)))) (rows_of_system B) ≡ true
      → list_any p (g_values texts) ≡ false
  no_g no_macro p in_a in_b =
      no_such_g dialect.system p (in_each (λ (row : Row). not (p (pos (row.code * 1000000)))) in_a in_b dialect.system) _ _
      (same_words_of (codes "G") texts words are) (known_there no_macro).codes_are g_plain

  -- Outside macro calls the block is no cycle along a contour (G70 to G73).
  no_cycle : gives dialect.system is_macro_call words ≡ false → cycle_of texts ≡ role.Other
  no_cycle no_macro =
      rw (no_g no_macro (is_g 70000000) refl refl, no_g no_macro (is_g 71000000) refl refl, no_g no_macro (is_g 72000000) refl refl, no_g no_macro (is_g 73000000) refl refl) refl

  -- The role of the block and its purpose are of the same kind.
  pub roles : HaveRole dialect texts words
  roles =
      go (gives dialect.system is_macro_call words) (has_code 98 words) (has_code 99 words) (read_codes.has_wait dialect words) (has_code 2 words || has_code 30 words)
      refl refl refl refl refl
    where
      has_code_same : (code : ℕ) → has_m code texts ≡ has_code code words
      has_code_same code = ap (list_any (λ own. own == code)) codes_same

      wait_same : has_wait dialect texts ≡ read_codes.has_wait dialect words
      wait_same = ap (list_any (read_codes.is_waiting dialect)) codes_same

      end_same : (has_m 2 texts || has_m 30 texts) ≡ (has_code 2 words || has_code 30 words)
      end_same = rw (has_code_same 2, has_code_same 30) refl

      go : (a b c d e : Bool) → gives dialect.system is_macro_call words ≡ a → has_code 98 words ≡ b → has_code 99 words ≡ c → read_codes.has_wait dialect words ≡ d
          → (has_code 2 words || has_code 30 words) ≡ e → HaveRole dialect texts words
      go true b c d e is1 is2 is3 is4 is5 = record {
        role = role.MacroCall;
        purpose = purpose.MacroCall;
        role_is = rw (macro_same, is1) refl;
        purpose_is = rw is1 refl;
        same = macro is1;
      }
      go false true c d e is1 is2 is3 is4 is5 = record {
        role = role.Subprogram;
        purpose = purpose.Subprogram;
        role_is = rw (macro_same, is1, has_code_same 98, is2) refl;
        purpose_is = rw (is1, is2) refl;
        same = subprogram is1 is2;
      }
      go false false true d e is1 is2 is3 is4 is5 = record {
        role = role.Return;
        purpose = purpose.Return;
        role_is = rw (macro_same, is1, has_code_same 98, is2, has_code_same 99, is3) refl;
        purpose_is = rw (is1, is2, is3) refl;
        same = returns is1 is3;
      }
      go false false false true e is1 is2 is3 is4 is5 = record {
        role = role.Wait;
        purpose = purpose.Wait;
        role_is = rw (macro_same, is1, has_code_same 98, is2, has_code_same 99, is3, wait_same, is4) refl;
        purpose_is = rw (is1, is2, is3, is4) refl;
        same = wait is1;
      }
      go false false false false true is1 is2 is3 is4 is5 = record {
        role = role.End;
        purpose = purpose_by (one_shot dialect.system words);
        role_is = rw (macro_same, is1, has_code_same 98, is2, has_code_same 99, is3, wait_same, is4, end_same, is5) refl;
        purpose_is = rw (is1, is2, is3, is4) refl;
        same = ends (purpose_by (one_shot dialect.system words)) is1 is5 (left (one_shot dialect.system words));
      }
      go false false false false false is1 is2 is3 is4 is5 = record {
        role = role.Other;
        purpose = purpose_by (one_shot dialect.system words);
        role_is = rw (macro_same, is1, has_code_same 98, is2, has_code_same 99, is3, wait_same, is4, end_same, is5) (no_cycle is1);
        purpose_is = rw (is1, is2, is3, is4) refl;
        same = onward (purpose_by (one_shot dialect.system words)) is1 is5 (left (one_shot dialect.system words));
      }

  -- A block of another purpose than a macro call calls no macro.
  not_macro : (p : Purpose) → purpose_of dialect words ≡ p → read_codes.is_macro p ≡ false → gives dialect.system is_macro_call words ≡ false
  not_macro p is other = go (gives dialect.system is_macro_call words) refl
    where
      go : (b : Bool) → gives dialect.system is_macro_call words ≡ b → b ≡ false
      go false e = refl
      go true e =
          let own : purpose_of dialect words ≡ purpose.MacroCall = rw e refl in
          let same : p ≡ purpose.MacroCall = sym is ∙ own in
          let apart : read_codes.is_macro purpose.MacroCall ≡ false = subst (λ q. read_codes.is_macro q ≡ false) same other in
          absurd (cc)

  -- Outside macro calls the P and L of the block break no rule.
  good_block : (p : Purpose) → purpose_of dialect words ≡ p → gives dialect.system is_macro_call words ≡ false → closed.is_bad_block dialect.system p words ≡ false
  good_block p is no_macro = go (gives dialect.system is_macro_call words) no_macro given.good_call
    where
      go : (b : Bool) → b ≡ false → cond b (closed.is_bad_macro_call words) (closed.is_bad_block dialect.system (purpose_of dialect words) words) ≡ false
          → closed.is_bad_block dialect.system p words ≡ false
      go true e all = absurd (cc)
      go false e all = subst (λ q. closed.is_bad_block dialect.system q words ≡ false) is all

  -- Outside macro calls no dwell and no setting stands beside a call or a return.
  not_crowded : (p : Purpose) → purpose_of dialect words ≡ p → gives dialect.system is_macro_call words ≡ false → closed.is_crowded_call dialect.system words ≡ false
  not_crowded p is no_macro = (neither _ _ (neither _ _ (good_block p is no_macro)).0).1

  -- Outside macro calls the block has no L if L has no meaning in it.
  l_free : (p : Purpose) → purpose_of dialect words ≡ p → gives dialect.system is_macro_call words ≡ false → asked.is_idle_l p ≡ true → read.has (codes "L") words ≡ false
  l_free p is no_macro idle = go (read.has (codes "L") words) (asked.is_idle_l p) idle (neither _ _ (neither _ _ (good_block p is no_macro)).1).1
    where
      go : (a b : Bool) → b ≡ true → (a && b) ≡ false → a ≡ false
      go false b e all = refl
      go true true e all = absurd (cc)
      go true false e all = absurd (cc)

  -- The words of the letters that must be written out are so.
  fixed_by : (p : Purpose) → purpose_of dialect words ≡ p → read.has_computed (asked.fixed_letters p) words ≡ false
  fixed_by p is = subst (λ q. read.has_computed (asked.fixed_letters q) words ≡ false) is given.fixed

  -- The L words of a block that calls, returns or sets an offset are written out, and in any other
  -- block there is none.
  l_plain : (p : Purpose) → purpose_of dialect words ≡ p → read.has_computed (codes "L") words ≡ false
  l_plain purpose.MacroCall is = fewer_computed (codes "L") (codes "GNOPL") (one_among 76 (codes "GNOPL") refl) words (fixed_by purpose.MacroCall is)
  l_plain purpose.Subprogram is = fewer_computed (codes "L") (codes "GNOMPL") (one_among 76 (codes "GNOMPL") refl) words (fixed_by purpose.Subprogram is)
  l_plain purpose.Return is = fewer_computed (codes "L") (codes "GNOMPL") (one_among 76 (codes "GNOMPL") refl) words (fixed_by purpose.Return is)
  l_plain purpose.Setting is = fewer_computed (codes "L") (codes "GNOML") (one_among 76 (codes "GNOML") refl) words (fixed_by purpose.Setting is)
  l_plain purpose.Wait is = none_computed (codes "L") words (l_free purpose.Wait is (not_macro purpose.Wait is refl) refl)
  l_plain purpose.Dwell is = none_computed (codes "L") words (l_free purpose.Dwell is (not_macro purpose.Dwell is refl) refl)
  l_plain purpose.Other is = none_computed (codes "L") words (l_free purpose.Other is (not_macro purpose.Other is refl) refl)

  -- The P words of the block are written out, if P is among the letters that must be.
  p_plain : (p : Purpose) → purpose_of dialect words ≡ p → read.is_one_of (asked.fixed_letters p) 80 ≡ true → read.has_computed (codes "P") words ≡ false
  p_plain p is there = fewer_computed (codes "P") (asked.fixed_letters p) (one_among 80 (asked.fixed_letters p) there) words (fixed_by p is)

  -- The G, N, O and M words of a block whose purpose is left are written out.
  plain_by : (p : Purpose) → is_left p ≡ true → read.has_computed (asked.fixed_letters p) words ≡ false → read.has_computed (codes "GNOM") words ≡ false
  plain_by purpose.Dwell kind e = e
  plain_by purpose.Other kind e = e
  plain_by purpose.Setting kind e = fewer_computed (codes "GNOM") (codes "GNOML") (front_among (codes "GNOM") (codes "L")) words e
  plain_by purpose.MacroCall kind e = absurd (cc)
  plain_by purpose.Subprogram kind e = absurd (cc)
  plain_by purpose.Return kind e = absurd (cc)
  plain_by purpose.Wait kind e = absurd (cc)

  -- The words that the open reading needs written out are so.
  letters_plain : (r : Role) (p : Purpose) → IsSame dialect.system words r p → read.has_computed (asked.fixed_letters p) words ≡ false → has_computed (fixed_letters r) texts ≡ false
  letters_plain _ _ (macro is) e = same_computed (codes "GNOPL") texts words are ∙ e
  letters_plain _ _ (subprogram apart is) e = same_computed (codes "GNOMPL") texts words are ∙ e
  letters_plain _ _ (returns apart is) e = same_computed (codes "GNOMPL") texts words are ∙ e
  letters_plain _ _ (wait apart) e = same_computed (codes "GNOM") texts words are ∙ e
  letters_plain _ _ (ends p apart is kind) e = same_computed (codes "GNOM") texts words are ∙ plain_by p kind e
  letters_plain _ _ (onward p apart is kind) e = same_computed (codes "GNOM") texts words are ∙ plain_by p kind e

  -- 54 of the open reading does not hold.
  fixed_there : HaveRole dialect texts words → is_not_fixed dialect texts ≡ false
  fixed_there r =
      let letters : has_computed (fixed_letters (role_of dialect texts)) texts ≡ false =
      subst (λ q. has_computed (fixed_letters q) texts ≡ false) (sym r.role_is) (letters_plain r.role r.purpose r.same (fixed_by r.purpose r.purpose_is)) in
      let l_alone : has_computed (codes "L") texts ≡ false = same_computed (codes "L") texts words are ∙ l_plain r.purpose r.purpose_is in
      rw (letters, l_alone) (and_false (has_g 10000000 texts) false refl)

  -- Both readings see the same beginning of a macro call.
  begins_same : (texts : List Word) (words : List FlowWord) → AreSaid texts words → begins_macro_call dialect.system texts ≡ closed.begins_macro_call dialect.system words
  begins_same _ _ none = refl
  begins_same _ _ (one_more text word texts words is further) =
      rw (is.letter, same_row dialect.system text word is, same_has (codes "GNO") texts words further) refl

  -- Outside macro calls a block with a call or a return has no dwell and no setting.
  sets_nothing : (p : Purpose) → purpose_of dialect words ≡ p → gives dialect.system is_macro_call words ≡ false → (has_code 98 words || has_code 99 words) ≡ true
      → (gives dialect.system is_dwell words ≡ false) × (gives dialect.system is_setting words ≡ false)
  sets_nothing p is no_macro call = neither _ _ (go (has_code 98 words || has_code 99 words) call (not_crowded p is no_macro))
    where
      go : (b : Bool) → b ≡ true → (b && (gives dialect.system is_dwell words || gives dialect.system is_setting words)) ≡ false → (gives dialect.system is_dwell words || gives dialect.system is_setting words) ≡ false
      go true e all = all
      go false e all = absurd (cc)

  -- If L has no meaning in the block, which calls no macro, no L says 50 to 52.
  l_numbers : (p : Purpose) → purpose_of dialect words ≡ p → asked.is_idle_l p ≡ true → gives dialect.system is_macro_call words ≡ false → list_any is_parameter (numbers_of (codes "L") texts) ≡ false
  l_numbers p is idle no_macro =
      let none_there : read.words_of (codes "L") words ≡ [] = none_of (codes "L") words (l_free p is no_macro idle) in
      same_any (same_numbers (codes "L") texts words are) none_there
    where
      same_any : numbers_of (codes "L") texts ≡ filter_map (λ (w : FlowWord). read_codes.natural_number (read.whole_value w.value)) (read.words_of (codes "L") words)
          → read.words_of (codes "L") words ≡ [] → list_any is_parameter (numbers_of (codes "L") texts) ≡ false
      same_any e empty = rw (e, empty) refl

  -- In a block that sets an offset each L is 2, so none says 50 to 52.
  setting_numbers : purpose_of dialect words ≡ purpose.Setting → list_any is_parameter (numbers_of (codes "L") texts) ≡ false
  setting_numbers is =
      let ranges : list_any (λ (w : FlowWord). not (is_in_range purpose.Setting w)) words ≡ false =
      subst (λ q. list_any (λ (w : FlowWord). not (is_in_range q w)) words ≡ false) is given.ranges in
      no_parameters _ _ (same_words_of (codes "L") texts words are)
      (all_fit purpose.Setting 2 2 (codes "L") (range_of_one purpose.Setting 2 2 76 refl) words ranges)

  -- In a block whose purpose is left, and which calls no macro, no L says 50 to 52.
  by_left : (p : Purpose) → purpose_of dialect words ≡ p → is_left p ≡ true → gives dialect.system is_macro_call words ≡ false → list_any is_parameter (numbers_of (codes "L") texts) ≡ false
  by_left purpose.Setting is kind apart = setting_numbers is
  by_left purpose.Dwell is kind apart = l_numbers purpose.Dwell is refl apart
  by_left purpose.Other is kind apart = l_numbers purpose.Other is refl apart
  by_left purpose.MacroCall is kind apart = absurd (cc)
  by_left purpose.Subprogram is kind apart = absurd (cc)
  by_left purpose.Return is kind apart = absurd (cc)
  by_left purpose.Wait is kind apart = absurd (cc)

  -- Outside macro calls the block writes no parameters.
  no_writing : (r : Role) (p : Purpose) → IsSame dialect.system words r p → purpose_of dialect words ≡ p → gives dialect.system is_macro_call words ≡ false → writes_parameters texts ≡ false
  no_writing _ _ (macro held) is apart = absurd (cc)
  no_writing _ _ (subprogram apart held) is _ = rw (setting_same, (sets_nothing purpose.Subprogram is apart (rw held refl)).1) refl
  no_writing _ _ (returns apart held) is _ = rw (setting_same, (sets_nothing purpose.Return is apart (rw held (or_true (has_code 98 words)))).1) refl
  no_writing _ _ (wait apart) is _ = rw (l_numbers purpose.Wait is refl apart) (and_false (has_g 10000000 texts) false refl)
  no_writing _ _ (ends p apart held kind) is _ = rw (by_left p is kind apart) (and_false (has_g 10000000 texts) false refl)
  no_writing _ _ (onward p apart held kind) is _ = rw (by_left p is kind apart) (and_false (has_g 10000000 texts) false refl)

  -- If the block calls no macro, names no interrupt and writes no parameters, no code of it leads
  -- elsewhere.
  elsewhere : gives dialect.system is_macro_call words ≡ false → names_interrupt dialect texts ≡ false → writes_parameters texts ≡ false
      → ((list_any is_refused_g (g_values texts) || list_any (is_refused_m dialect) (m_codes texts)) || writes_parameters texts) ≡ false
  elsewhere apart plain writes =
      rw (no_g apart is_refused_g refl refl, go (is_macro texts) (list_any (is_refused_m dialect) (m_codes texts)) (macro_same ∙ apart) plain, writes) refl
    where
      go : (a b : Bool) → a ≡ false → (not a && b) ≡ false → b ≡ false
      go true b e all = absurd (cc)
      go false b e all = all

  -- If the block names no interrupt, no code of it is unknown to the open reading.
  unknown_by : (r : Role) (p : Purpose) → IsSame dialect.system words r p → purpose_of dialect words ≡ p → names_interrupt dialect texts ≡ false → is_unknown_by r dialect texts ≡ false
  unknown_by r p (macro held) is plain = rw (begins_same texts words are) (go (gives dialect.system is_macro_call words) held given.known)
    where
      go : (b : Bool) → b ≡ true → cond b (not (closed.begins_macro_call dialect.system words))
          ((list_any (closed.is_unknown_code dialect.system) (read.words_of (codes "G") words) || list_any (λ (w : FlowWord). closed.is_unknown_letter dialect.system words w.letter) words)
          || (closed.is_bad_limit dialect.system words || closed.is_bad_machine dialect.system words)) ≡ false → not (closed.begins_macro_call dialect.system words) ≡ false
      go true e all = all
      go false e all = absurd (cc)
  unknown_by r p (subprogram apart held) is plain = elsewhere apart plain (no_writing r p (subprogram apart held) is apart)
  unknown_by r p (returns apart held) is plain = elsewhere apart plain (no_writing r p (returns apart held) is apart)
  unknown_by r p (wait apart) is plain = elsewhere apart plain (no_writing r p (wait apart) is apart)
  unknown_by r p (ends q apart held kind) is plain = elsewhere apart plain (no_writing r p (ends q apart held kind) is apart)
  unknown_by r p (onward q apart held kind) is plain = elsewhere apart plain (no_writing r p (onward q apart held kind) is apart)

  -- If the block sets no offset, words of letters with a meaning in it have letters that say no
  -- more of a call.
  letters_beside : (texts : List Word) (own : List FlowWord) → AreSaid texts own → gives dialect.system is_setting words ≡ false
      → list_any (λ (w : FlowWord). closed.is_unknown_letter dialect.system words w.letter) own ≡ false
      → list_all (λ (t : Word). read.is_one_of (codes "XZUWIKRFSTNOMGPLABCEVY") t.letter) texts ≡ true
  letters_beside _ _ none apart all = refl
  letters_beside _ _ (one_more text word texts own is further) apart all =
      let both = neither _ _ all in
      let here : (read.is_one_of (closed.known_letters dialect.system) word.letter || (read.is_one_of (codes "Q") word.letter && gives dialect.system is_setting words)) ≡ true = not_false _ both.0 in
      let letter : read.is_one_of (codes "XZUWIKRFSTNOMGPLABCEVY") text.letter ≡ true =
      front_among (codes "XZUWIKRFSTNOMGPL") (codes "ABCEVY") text.letter
      (known_among dialect.system text.letter
      (subst (λ l. read.is_one_of (closed.known_letters dialect.system) l ≡ true) is.letter (first (read.is_one_of (closed.known_letters dialect.system) word.letter) (read.is_one_of (codes "Q") word.letter) (gives dialect.system is_setting words) apart here))) in
      rw letter (letters_beside texts own further apart both.1)
    where
      first : (a b c : Bool) → c ≡ false → (a || (b && c)) ≡ true → a ≡ true
      first true b c e all = refl
      first false true true e all = absurd (cc)
      first false true false e all = absurd (cc)
      first false false c e all = absurd (cc)

  -- Outside macro calls, beside a call or a return stand only letters that say no more of it and G
  -- codes of the system.
  beside_call : (p : Purpose) → purpose_of dialect words ≡ p → gives dialect.system is_macro_call words ≡ false → (has_code 98 words || has_code 99 words) ≡ true
      → not (is_beside_a_call dialect.system texts) ≡ false
  beside_call p is apart call =
      let known = known_there apart in
      let letters = letters_beside texts words are (sets_nothing p is apart call).1 known.letters_are in
      let have_rows = each_has_row dialect.system _ _ (same_words_of (codes "G") texts words are) known.codes_are g_plain in
      rw (letters, have_rows) refl

  -- No call, return or end of the block is crowded.
  crowded_by : (r : Role) (p : Purpose) → IsSame dialect.system words r p → purpose_of dialect words ≡ p → is_crowded r dialect.system texts ≡ false
  crowded_by _ _ (macro held) is = refl
  crowded_by _ _ (subprogram apart held) is = beside_call purpose.Subprogram is apart (rw held refl)
  crowded_by _ _ (returns apart held) is = beside_call purpose.Return is apart (rw held (or_true (has_code 98 words)))
  crowded_by _ _ (wait apart) is = refl
  crowded_by _ _ (ends p apart held kind) is = ap is_contour (no_cycle apart)
  crowded_by _ _ (onward p apart held kind) is = refl

  -- If the block names no interrupt, 56 of the open reading does not hold.
  known_codes : HaveRole dialect texts words → names_interrupt dialect texts ≡ false → is_unknown dialect texts ≡ false
  known_codes r plain =
      subst (λ q. (is_unknown_by q dialect texts || is_crowded q dialect.system texts) ≡ false) (sym r.role_is)
      (rw (unknown_by r.role r.purpose r.same r.purpose_is plain, crowded_by r.role r.purpose r.same r.purpose_is) refl)

  -- Both readings see the same wait.
  there_same : waits_there dialect texts ≡ closed.waits_there dialect words
  there_same = rw (macro_same, codes_same) refl

  -- 57 of the open reading does not hold.
  alone_there : is_wait_not_alone dialect texts ≡ false
  alone_there = rw (there_same, same_count (codes "ABCDEFGHIJKLMNOQRSTUVWXYZ") texts words are) (given.alone)

  -- 58 of the open reading does not hold.
  both_there : is_wait_of_others dialect texts ≡ false
  both_there =
      rw (there_same, same_has (codes "P") texts words are, same_computed (codes "P") texts words are, same_last (codes "P") texts words are) (given.both)

  -- 59 of the open reading does not hold.
  one_m_there : has_two_m texts ≡ false
  one_m_there = rw (macro_same, same_count (codes "M") texts words are, given.one_m) refl

  -- Outside macro calls, beside a call or a return no G code takes the P.
  takes_nothing : (p : Purpose) → purpose_of dialect words ≡ p → gives dialect.system is_macro_call words ≡ false → (has_code 98 words || has_code 99 words) ≡ true → uses_p dialect.system texts ≡ false
  takes_nothing p is apart call =
      let nothing = sets_nothing p is apart call in
      same_takes dialect.system _ _ (same_words_of (codes "G") texts words are) ∙ (rw (nothing.0, nothing.1) refl)

  -- The call or the return of the block is no bad one.
  bad_call_by : (r : Role) (p : Purpose) → IsSame dialect.system words r p → purpose_of dialect words ≡ p → is_bad_call_by r dialect.system texts ≡ false
  bad_call_by _ _ (macro held) is = rw (same_has (codes "P") texts words are) (go (gives dialect.system is_macro_call words) held given.good_call)
    where
      go : (b : Bool) → b ≡ true → cond b (closed.is_bad_macro_call words) (closed.is_bad_block dialect.system (purpose_of dialect words) words) ≡ false
          → not (read.has (codes "P") words) ≡ false
      go true e all = (neither _ _ all).0
      go false e all = absurd (cc)
  bad_call_by _ _ (subprogram apart held) is =
      let good = neither (not (read.has (codes "P") words)) (closed.has_repeats words && read.has (codes "L") words)
      (neither _ _ (neither _ _ (good_block purpose.Subprogram is apart)).0).0 in
      rw (same_has (codes "P") texts words are, takes_nothing purpose.Subprogram is apart (rw held refl), same_last (codes "P") texts words are, same_has (codes "L") texts words are, good.0, good.1) refl
  bad_call_by _ _ (returns apart held) is =
      rw (same_has (codes "L") texts words are, l_free purpose.Return is apart refl, takes_nothing purpose.Return is apart (rw held (or_true (has_code 98 words)))) refl
  bad_call_by _ _ (wait apart) is = refl
  bad_call_by _ _ (ends p apart held kind) is = refl
  bad_call_by _ _ (onward p apart held kind) is = refl

  -- 61 of the open reading does not hold.
  good_there : HaveRole dialect texts words → is_bad_call dialect texts ≡ false
  good_there r = subst (λ q. is_bad_call_by q dialect.system texts ≡ false) (sym r.role_is) (bad_call_by r.role r.purpose r.same r.purpose_is)

  -- Each word of the block is in its range.
  ranges_by : (p : Purpose) → purpose_of dialect words ≡ p → list_any (λ (w : FlowWord). not (is_in_range p w)) words ≡ false
  ranges_by p is = subst (λ q. list_any (λ (w : FlowWord). not (is_in_range q w)) words ≡ false) is given.ranges

  -- Words of letters with a range in the full reading, which are written out, are in that range in
  -- the open one.
  within : (p : Purpose) (least greatest : ℕ) (letters : List ℕ) → purpose_of dialect words ≡ p → HaveRange p least greatest letters
      → read.has_computed letters words ≡ false → are_in least greatest letters texts ≡ true
  within p least greatest letters is range plain =
      all_within least greatest _ _ (same_words_of letters texts words are) (all_fit p least greatest letters range words (ranges_by p is)) plain

  -- The P, L and Q of the block are in the range of its role.
  range_by : (r : Role) (p : Purpose) → IsSame dialect.system words r p → purpose_of dialect words ≡ p → is_in_range_by r texts ≡ true
  range_by _ _ (macro held) is =
      within purpose.MacroCall 1 9999 (codes "PL") is (range_of_two purpose.MacroCall 1 9999 80 76 refl refl)
      (fewer_computed (codes "PL") (codes "GNOPL") pl_among words (fixed_by purpose.MacroCall is))
  range_by _ _ (subprogram apart held) is =
      rw (within purpose.Subprogram 1 99999999 (codes "P") is (range_of_one purpose.Subprogram 1 99999999 80 refl) (p_plain purpose.Subprogram is refl))
      (within purpose.Subprogram 1 9999 (codes "L") is (range_of_one purpose.Subprogram 1 9999 76 refl) (l_plain purpose.Subprogram is))
  range_by _ _ (returns apart held) is =
      within purpose.Return 1 99999 (codes "P") is (range_of_one purpose.Return 1 99999 80 refl) (p_plain purpose.Return is refl)
  range_by _ _ (wait apart) is = refl
  range_by _ _ (ends p apart held kind) is = refl
  range_by _ _ (onward p apart held kind) is = refl

  -- Outside macro calls the M words are written out.
  m_plain : (p : Purpose) → purpose_of dialect words ≡ p → read_codes.is_macro p ≡ false → read.has_computed (codes "M") words ≡ false
  m_plain p is other = fewer_computed (codes "M") (asked.fixed_letters p) (one_among 77 (asked.fixed_letters p) (there p other)) words (fixed_by p is)
    where
      there : (p : Purpose) → read_codes.is_macro p ≡ false → read.is_one_of (asked.fixed_letters p) 77 ≡ true
      there purpose.MacroCall e = absurd (cc)
      there purpose.Subprogram e = refl
      there purpose.Return e = refl
      there purpose.Wait e = refl
      there purpose.Dwell e = refl
      there purpose.Setting e = refl
      there purpose.Other e = refl

  -- Outside macro calls the M codes are 0 to 99,999,999.
  m_within : (p : Purpose) → purpose_of dialect words ≡ p → read_codes.is_macro p ≡ false → are_in 0 99999999 (codes "M") texts ≡ true
  m_within p is other =
      within_more 0 999 99999999 refl (words_of (codes "M") texts)
      (within p 0 999 (codes "M") is (range_of_one p 0 999 77 (range_m p other)) (m_plain p is other))
    where
      range_m : (p : Purpose) → read_codes.is_macro p ≡ false → range_of p 77 ≡ Between 0 999
      range_m purpose.MacroCall e = absurd (cc)
      range_m purpose.Subprogram e = refl
      range_m purpose.Return e = refl
      range_m purpose.Wait e = refl
      range_m purpose.Dwell e = refl
      range_m purpose.Setting e = refl
      range_m purpose.Other e = refl

  -- Whatever its role, no M code of the block is out of its range outside macro calls.
  m_by : (r : Role) (p : Purpose) → IsSame dialect.system words r p → purpose_of dialect words ≡ p → (not (is_macro texts) && not (are_in 0 99999999 (codes "M") texts)) ≡ false
  m_by _ _ (macro held) is = rw (macro_same, held) refl
  m_by _ p (subprogram apart held) is = rw (m_within p is refl) (and_false (not (is_macro texts)) false refl)
  m_by _ p (returns apart held) is = rw (m_within p is refl) (and_false (not (is_macro texts)) false refl)
  m_by _ p (wait apart) is = rw (m_within p is refl) (and_false (not (is_macro texts)) false refl)
  m_by _ p (ends q apart held kind) is = rw (m_within p is (left_plain q kind)) (and_false (not (is_macro texts)) false refl)
  m_by _ p (onward q apart held kind) is = rw (m_within p is (left_plain q kind)) (and_false (not (is_macro texts)) false refl)

  -- 64 of the open reading does not hold.
  ranges_there : HaveRole dialect texts words → is_out_of_range dialect texts ≡ false
  ranges_there r =
      let own : is_in_range_by (role_of dialect texts) texts ≡ true =
      subst (λ q. is_in_range_by q texts ≡ true) (sym r.role_is) (range_by r.role r.purpose r.same r.purpose_is) in
      rw (own, m_by r.role r.purpose r.same r.purpose_is) refl

  -- The open reading refuses nothing, if the block names no interrupt.
  pub no_refusal : names_interrupt dialect texts ≡ false → refusal_of dialect texts ≡ None
  no_refusal plain =
      let r = roles in
      let long : is_long dialect texts ≡ false =
      rw (none_long (fixed_letters (role_of dialect texts)) texts words are, none_long (codes "L") texts words are) (and_false (has_g 10000000 texts) false refl) in
      all_false (is_long dialect texts) (is_not_fixed dialect texts) (is_unknown dialect texts) (is_wait_not_alone dialect texts) (is_wait_of_others dialect texts) (has_two_m texts) (is_bad_call dialect texts) (is_out_of_range dialect texts)
      long (fixed_there r) (known_codes r plain) alone_there both_there one_m_there (good_there r) (ranges_there r)
    where
      all_false : (a b c d e f g h : Bool) → a ≡ false → b ≡ false → c ≡ false → d ≡ false → e ≡ false → f ≡ false → g ≡ false → h ≡ false
          → (if a then Some TooManyDigits else if b then Some NotFixed else if c then Some UnknownCode else if d then Some WaitNotAlone else if e then Some WaitPaths
          else if f then Some TwoM else if g then Some BadCall else if h then Some WordRange else None) ≡ None
      all_false a b c d e f g h is1 is2 is3 is4 is5 is6 is7 is8 = rw (is1, is2, is3, is4, is5, is6, is7, is8) refl

  -- A block of each role leads where the full reading says by its purpose.
  leads_by : (r : Role) (p : Purpose) → IsSame dialect.system words r p → control_by r dialect texts ≡ full_control_by p dialect words
  leads_by _ _ (macro held) = rw (same_last (codes "P") texts words are, same_last (codes "L") texts words are) refl
  leads_by _ _ (subprogram apart held) = rw (same_last (codes "P") texts words are, same_last (codes "L") texts words are) refl
  leads_by _ _ (returns apart held) = rw (same_last (codes "P") texts words are) refl
  leads_by _ _ (wait apart) = rw codes_same refl
  leads_by _ _ (ends p apart held kind) = sym (left_leads dialect words p kind ∙ (rw held refl))
  leads_by _ _ (onward p apart held kind) = sym (left_leads dialect words p kind ∙ (rw held refl))

  -- The block leads in the open reading where it does in the full one.
  pub leads_there : control_by (role_of dialect texts) dialect texts ≡ control_of_words dialect words
  leads_there =
      let r = roles in
      ap (λ q. control_by q dialect texts) r.role_is ∙ leads_by r.role r.purpose r.same
      ∙ ap (λ q. full_control_by q dialect words) (sym r.purpose_is)
