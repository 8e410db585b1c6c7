use native.Mathlib.Omega.{arith}
use Rattle.report.proofs.Decimals.{length_one, length_more, put_one, put_more}
use Rattle.report.proofs.field.+put_number.Goals as goal

pub bounds-out-at : goal.bounds-out-at
bounds-out-at t c = let e = length_one c.args.v c.if-v-lt10.true in omega arith

pub returns-then-v-lt10 : goal.returns-then-v-lt10
returns-then-v-lt10 t c = put_one c.args.v c.if-v-lt10.true c.requires

pub put_number-last-requires : goal.put_number-last-requires
put_number-last-requires t c =
    let e = length_more c.args.v (omega arith) (omega arith) in
    (omega arith, record { fits = omega arith })

pub bounds-out-last : goal.bounds-out-last
bounds-out-last t c = let e = length_more c.args.v (omega arith) (omega arith) in omega arith

pub returns : goal.returns
returns t c = put_more c.args.v (omega arith) (omega arith) c.requires c.put_number-last.ensures
