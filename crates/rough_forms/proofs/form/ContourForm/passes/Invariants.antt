-- The passes so far and those from here on are all passes (loop of `passes`, src/form.rt).
use Rattle.std.proofs.Common.{◌≡◌, ◌++◌, ◌-◌, ◌≤◌, All}
use Rattle.rough_forms.specs.Roughing.{passes_from}
use Rattle.rough_forms.specs.Form.{rough_of, IsNearPass}
use Rattle.rough_forms.proofs.form.ContourForm.passes.Given as goal

abbrev pub invariant-loop-k : goal.invariant-loop-k
invariant-loop-k l = record {
  made : l.passes.items ++ passes_from (rough_of l.self) l.k (1002 - l.k) ≡ passes_from (rough_of l.self) 1 1001;
  some : 1 ≤ l.k;
  near : All IsNearPass l.passes.items;
}
