-- `host::sizes::words_for` meets its contract. Assumes nothing.
use native.Mathlib.Omega.{arith}
use native.Mathlib.Nat.{mul-le-mul, lt_of_le_of_lt}
use Prim.Native.Nat.{◌+◌, ◌*◌, ◌≤◌}
use borrow.Author.Tests.{eq-eqb, ne_eqb, le-leb, lt-leb}
use Rattle.counting.specs.Counts.{within_most}
use Rattle.hosting.specs.Sizes.{words_for}
use Rattle.host.proofs.sizes.words_for.Goals as goal

pub returns-then-n-eq0 : goal.returns-then-n-eq0
unfolding words_for within_most
returns-then-n-eq0 c = rw (eq-eqb _ _ c.if-n-eq0.true)

pub returns-then-n-most : goal.returns-then-n-most
unfolding words_for within_most
returns-then-n-most c = rw (ne_eqb _ _ c.if-n-eq0.false, lt-leb _ _ c.if-n-most.true)

pub overflow_mul-result : goal.overflow_mul-result
overflow_mul-result c =
    let rows : c.args.header + c.args.n ≤ 8193 = omega arith in
    let each : c.args.each ≤ 16 = omega arith in
    let all : (c.args.header + c.args.n) * c.args.each ≤ 131088 = mul-le-mul rows each in
    record { fits = lt_of_le_of_lt all (omega arith) }

pub returns : goal.returns
unfolding words_for within_most
returns c = rw (ne_eqb _ _ c.if-n-eq0.false, le-leb _ _ c.if-n-most.false)
