use Rattle.std.proofs.Common.{rules, ◌≡◌, ◌<◌, ◌≤◌, ◌++◌, ◌∙◌, ℕ, [], length, take, drop, inl, inr, refl, sym, ap, subst, arith, true, false, is_err, length-append}
use Rattle.std.proofs.lemmas.List.{length-take}
use Rattle.trace_check.specs.Checking.{HasRead}
use Rattle.trace_check.specs.Verdicts.{is_decided, standing_of}
use Rattle.unit_io.specs.Told.{Takes}
use Rattle.unit_top.proofs.CheckLemmas.{buffer_same, cut_short, ended_outcome, front_full, front_within, outcome_decided, outcome_too_long, read_decided, read_on, some_more, takes_both, told, told_cut, when_ok}
use Rattle.unit_top.proofs.check.judge.Goals as goal

pub returns-then-n-eq0-clause-verdict : goal.returns-then-n-eq0-clause-verdict
returns-then-n-eq0-clause-verdict g c = λ trace is.
    let inv = c.loop-n.invariant in
    let part = inv.told trace is in
    let some : 0 < length c.as_mut_slice.result.now = omega (arith, ap length c.as_mut_slice.ensures.value, inv.room) in
    let none : part.0 ≡ [] = c.in-Ok-read.ensures.end c.if-n-eq0.true some part.0 part.2 in
    ended_outcome trace inv.bytes part.0 c.finish.result part.1 none (omega (arith, inv.count)) (c.finish.ensures.verdict inv.bytes inv.has_read)

pub returns-then-is_err-clause-read : goal.returns-then-is_err-clause-read
returns-then-is_err-clause-read g c = λ trace is.
    let inv = c.loop-n.invariant in
    let piece = take c.in-Ok-read.n c.read.new.buf in
    let short : length piece ≤ 65536 = omega (arith, length-take c.in-Ok-read.n c.read.new.buf, c.in-Ok-read.ensures.size, ap length c.as_mut_slice.ensures.value, inv.room) in
    read_on 5 trace inv.bytes piece (g.S.Source.left c.read.new.self) (inl refl)
    (told (g.S.Source.left c.args.src.now) (g.S.Source.left c.loop-n.src) (g.S.Source.left c.read.new.self) trace inv.bytes piece inv.told c.in-Ok-read.ensures.bytes is)
    inv.undecided short

pub returns-then-decided-clause-verdict : goal.returns-then-decided-clause-verdict
returns-then-decided-clause-verdict g c = λ trace is.
    let inv = c.loop-n.invariant in
    let old = g.S.Source.left c.args.src.now in
    let now = g.S.Source.left c.loop-n.src in
    let after = g.S.Source.left c.read.new.self in
    let k = c.min.result in
    let n = c.in-Ok-read.n in
    let buf = c.read.new.buf in
    let seen = c.as_slice.result.now in
    let size : length buf ≡ length c.loop-n.buffer.items = c.in-Ok-read.ensures.size ∙ ap length c.as_mut_slice.ensures.value in
    let seen_is : seen ≡ buf =
    buffer_same c.loop-n.buffer.len buf c.loop-n.buffer.items seen c.as_slice.ensures.value size (sym (ap length c.as_mut_slice.ensures.value) ∙ c.as_mut_slice.ensures.len) in
    let full : length buf ≡ 65536 = size ∙ inv.room in
    let k_n : k ≤ n = omega (arith, c.min.ensures) in
    let k_left : k ≤ c.loop-n.left = omega (arith, c.min.ensures) in
    let passed : is_err c.feed.result ≡ false = sym c.is_err.ensures.value ∙ c.if-is_err.false in
    let fed : HasRead c.feed.new.self (inv.bytes ++ take k seen) = when_ok c.feed.result passed c.feed.ensures.fed inv.bytes inv.has_read in
    let decides : is_decided (standing_of (inv.bytes ++ take k seen)) ≡ true = sym (c.decided.ensures (inv.bytes ++ take k seen) fed) ∙ c.if-decided.true in
    outcome_decided trace inv.bytes (take k seen) (drop k (take n buf)) c.finish-then-decided.result after
    (told_cut old now after trace inv.bytes k n seen buf seen_is k_n inv.told c.in-Ok-read.ensures.bytes is)
    (front_within inv.bytes seen k c.loop-n.left k_left inv.count) decides (c.finish-then-decided.ensures.verdict (inv.bytes ++ take k seen) fed)

pub returns-then-decided-clause-read : goal.returns-then-decided-clause-read
returns-then-decided-clause-read g c = λ trace is.
    let inv = c.loop-n.invariant in
    let old = g.S.Source.left c.args.src.now in
    let now = g.S.Source.left c.loop-n.src in
    let after = g.S.Source.left c.read.new.self in
    let k = c.min.result in
    let n = c.in-Ok-read.n in
    let buf = c.read.new.buf in
    let seen = c.as_slice.result.now in
    let size : length buf ≡ length c.loop-n.buffer.items = c.in-Ok-read.ensures.size ∙ ap length c.as_mut_slice.ensures.value in
    let seen_is : seen ≡ buf =
    buffer_same c.loop-n.buffer.len buf c.loop-n.buffer.items seen c.as_slice.ensures.value size (sym (ap length c.as_mut_slice.ensures.value) ∙ c.as_mut_slice.ensures.len) in
    let full : length buf ≡ 65536 = size ∙ inv.room in
    let k_n : k ≤ n = omega (arith, c.min.ensures) in
    let k_left : k ≤ c.loop-n.left = omega (arith, c.min.ensures) in
    let passed : is_err c.feed.result ≡ false = sym c.is_err.ensures.value ∙ c.if-is_err.false in
    let fed : HasRead c.feed.new.self (inv.bytes ++ take k seen) = when_ok c.feed.result passed c.feed.ensures.fed inv.bytes inv.has_read in
    let decides : is_decided (standing_of (inv.bytes ++ take k seen)) ≡ true = sym (c.decided.ensures (inv.bytes ++ take k seen) fed) ∙ c.if-decided.true in
    read_decided trace inv.bytes (take k seen) (drop k (take n buf)) c.finish-then-decided.result after
    (told_cut old now after trace inv.bytes k n seen buf seen_is k_n inv.told c.in-Ok-read.ensures.bytes is)
    inv.undecided (cut_short k n seen buf seen_is k_n full) decides (c.finish-then-decided.ensures.verdict (inv.bytes ++ take k seen) fed)

pub returns-then-n-left-clause-too_long : goal.returns-then-n-left-clause-too_long
returns-then-n-left-clause-too_long g c = λ six trace is.
    let inv = c.loop-n.invariant in
    let old = g.S.Source.left c.args.src.now in
    let now = g.S.Source.left c.loop-n.src in
    let after = g.S.Source.left c.read.new.self in
    let k = c.min.result in
    let n = c.in-Ok-read.n in
    let buf = c.read.new.buf in
    let seen = c.as_slice.result.now in
    let size : length buf ≡ length c.loop-n.buffer.items = c.in-Ok-read.ensures.size ∙ ap length c.as_mut_slice.ensures.value in
    let seen_is : seen ≡ buf =
    buffer_same c.loop-n.buffer.len buf c.loop-n.buffer.items seen c.as_slice.ensures.value size (sym (ap length c.as_mut_slice.ensures.value) ∙ c.as_mut_slice.ensures.len) in
    let full : length buf ≡ 65536 = size ∙ inv.room in
    let k_n : k ≤ n = omega (arith, c.min.ensures) in
    let k_left : k ≤ c.loop-n.left = omega (arith, c.min.ensures) in
    let passed : is_err c.feed.result ≡ false = sym c.is_err.ensures.value ∙ c.if-is_err.false in
    let fed : HasRead c.feed.new.self (inv.bytes ++ take k seen) = when_ok c.feed.result passed c.feed.ensures.fed inv.bytes inv.has_read in
    let undecided : is_decided (standing_of (inv.bytes ++ take k seen)) ≡ false = sym (c.decided.ensures (inv.bytes ++ take k seen) fed) ∙ c.if-decided.false in
    let low : n ≤ length buf = c.in-Ok-read.ensures.bound in
    let less : c.loop-n.left < n = c.if-n-left.true in
    let all : k ≡ c.loop-n.left = omega (arith, c.min.ensures, less) in
    outcome_too_long trace inv.bytes (take k seen) (drop k (take n buf)) after
    (told_cut old now after trace inv.bytes k n seen buf seen_is k_n inv.told c.in-Ok-read.ensures.bytes is)
    (front_full inv.bytes seen k c.loop-n.left all (omega (arith, ap length seen_is, low, less, all)) inv.count)
    (some_more k n buf (omega (arith, all, less)) low) undecided

pub returns-then-n-left-clause-read : goal.returns-then-n-left-clause-read
returns-then-n-left-clause-read g c = λ trace is.
    let inv = c.loop-n.invariant in
    let piece = take c.in-Ok-read.n c.read.new.buf in
    let short : length piece ≤ 65536 = omega (arith, length-take c.in-Ok-read.n c.read.new.buf, c.in-Ok-read.ensures.size, ap length c.as_mut_slice.ensures.value, inv.room) in
    read_on 6 trace inv.bytes piece (g.S.Source.left c.read.new.self) (inr refl)
    (told (g.S.Source.left c.args.src.now) (g.S.Source.left c.loop-n.src) (g.S.Source.left c.read.new.self) trace inv.bytes piece inv.told c.in-Ok-read.ensures.bytes is)
    inv.undecided short

pub loop-n-preserved : goal.loop-n-preserved
loop-n-preserved g c =
    let inv = c.loop-n.invariant in
    let old = g.S.Source.left c.args.src.now in
    let now = g.S.Source.left c.loop-n.src in
    let after = g.S.Source.left c.read.new.self in
    let k = c.min.result in
    let n = c.in-Ok-read.n in
    let buf = c.read.new.buf in
    let seen = c.as_slice.result.now in
    let size : length buf ≡ length c.loop-n.buffer.items = c.in-Ok-read.ensures.size ∙ ap length c.as_mut_slice.ensures.value in
    let seen_is : seen ≡ buf =
    buffer_same c.loop-n.buffer.len buf c.loop-n.buffer.items seen c.as_slice.ensures.value size (sym (ap length c.as_mut_slice.ensures.value) ∙ c.as_mut_slice.ensures.len) in
    let full : length buf ≡ 65536 = size ∙ inv.room in
    let k_n : k ≤ n = omega (arith, c.min.ensures) in
    let k_left : k ≤ c.loop-n.left = omega (arith, c.min.ensures) in
    let passed : is_err c.feed.result ≡ false = sym c.is_err.ensures.value ∙ c.if-is_err.false in
    let fed : HasRead c.feed.new.self (inv.bytes ++ take k seen) = when_ok c.feed.result passed c.feed.ensures.fed inv.bytes inv.has_read in
    let low : n ≤ length buf = c.in-Ok-read.ensures.bound in
    let le : n ≤ c.loop-n.left = c.if-n-left.false in
    let same : n ≡ k = omega (arith, c.min.ensures, le) in
    let front : take n buf ≡ take k seen = ap (λ (m : ℕ). take m buf) same ∙ ap (take k) (sym seen_is) in
    record {
      bytes = inv.bytes ++ take k seen;
      has_read = fed;
      undecided = sym (c.decided.ensures (inv.bytes ++ take k seen) fed) ∙ c.if-decided.false;
      count = omega (arith, length-append inv.bytes (take k seen), length-take k seen, ap length seen_is, low, same, inv.count);
      room = ap length (sym c.as_slice.ensures.value ∙ seen_is) ∙ full;
      faults = search rules;
      told = takes_both old now after inv.bytes (take k seen) inv.told (subst (Takes now after) front c.in-Ok-read.ensures.bytes);
    }
