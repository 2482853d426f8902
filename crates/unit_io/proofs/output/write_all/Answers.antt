use Rattle.std.proofs.Common.{rules, ap, arith, ◌≡◌, ◌≤◌, ◌-◌, ◌∙◌, sym, ◌++◌, ◌+◌, ℕ, List, length, Some, take, drop}
use Rattle.std.proofs.Math.Seq.{take-add}
use Rattle.std.proofs.lemmas.List.{append_assoc, take-append-drop, take-take, length-take}
use Rattle.unit_io.proofs.output.write_all.Goals as goal

-- a front was added, and then the next part
joined : (contents bytes : List ℕ) (at n : ℕ) → (contents ++ take at bytes) ++ take n (drop at bytes) ≡ contents ++ take (at + n) bytes
joined contents bytes at n = append_assoc contents (take at bytes) (take n (drop at bytes)) ∙ ap (λ (x : List ℕ). contents ++ x) (sym (take-add at n bytes))

-- a front of what is left, taken up to the end, is that front of what is left
rest : (bytes : List ℕ) (at n : ℕ) → n ≤ length (take (length bytes - at) (drop at bytes)) → take n (take (length bytes - at) (drop at bytes)) ≡ take n (drop at bytes)
rest bytes at n le = take-take n (length bytes - at) (drop at bytes) (omega (arith, le, length-take (length bytes - at) (drop at bytes)))

pub loop-at-preserved : goal.loop-at-preserved
loop-at-preserved g c = record {
  within = search rules;
  faults = search rules;
  told = λ contents is. c.in-Ok.ensures.bytes (contents ++ take c.loop-at.at c.args.bytes.now) (c.loop-at.invariant.told contents is)
      ∙ ap Some (ap (λ (x : List ℕ). (contents ++ take c.loop-at.at c.args.bytes.now) ++ x) (rest c.args.bytes.now c.loop-at.at c.in-Ok.n c.in-Ok.ensures.bound)
      ∙ joined contents c.args.bytes.now c.loop-at.at c.in-Ok.n);
}

pub returns-in-Err-clause-front : goal.returns-in-Err-clause-front
returns-in-Err-clause-front g c contents is = (
  take c.loop-at.at c.args.bytes.now,
  drop c.loop-at.at c.args.bytes.now,
  sym (take-append-drop c.loop-at.at c.args.bytes.now),
  c.in-Err.ensures.same ∙ c.loop-at.invariant.told contents is,
)

pub returns-clause-front : goal.returns-clause-front
returns-clause-front g c contents is = (
  take c.loop-at.at c.args.bytes.now,
  drop c.loop-at.at c.args.bytes.now,
  sym (take-append-drop c.loop-at.at c.args.bytes.now),
  c.loop-at.invariant.told contents is,
)
