-- Head, free list, info, then the directories: which answer, from facts.
use Prim.Native.Nat.{ℕ, ◌-◌}
use mathlib.Core.Bool.{Bool, true, false, not}
use mathlib.Core.List.{List}
use mathlib.Core.Path.{◌≡◌, refl, sym, ap, ◌∙◌, subst}
use lib.Dec.{T}
use lib.ListN.{length, length-replicate}
use native.Mathlib.Omega.{arith}
use Rattle.std.specs.Prelude.{Some, None, Result, Err}
use Rattle.wire.specs.Fault.{fault}
use Rattle.wire.specs.declared.fault.Fault.{Fault}
use Rattle.wire.specs.declared.fault.Reason.TheVariants as reason
use Rattle.directory.specs.Dir.{head_in}
use Rattle.directory.specs.declared.DirHead.{DirHead}
use Rattle.fileheader.specs.declared.FileHead.{FileHead}
use Rattle.table.specs.Table.{cleared}
use Rattle.rules.specs.Free.{Mode, free_holds, info_holds}
use Rattle.rules.specs.Order.{ruled}
use Rattle.rules.specs.Turn.{first_parts, rounds}
use Rattle.waiting.specs.Waiting.{Keeps}
use Rattle.waiting.specs.declared.Waiting.{Waiting}
use Rattle.audit.specs.Listing.{zeros, Ran, Sized, Tables}
use Rattle.audit.specs.declared.keys.Listed.{Listed}
use Rattle.audit.proofs.Listings.{ran_fault}

-- a table that was cleared
pub all_zeros : (n : ℕ) (t : List ℕ) {u : List ℕ} → length t ≡ n → u ≡ cleared t 0 → u ≡ zeros n
all_zeros n t e f = let k : length t - 0 ≡ n = omega arith in f ∙ ap zeros k

-- the three tables when the first parts are given
pub ready : {start part owner ps os : List ℕ} {w : Waiting} → Sized start part owner → length ps ≡ length part → os ≡ zeros (length start)
    → Keeps start ps w → Tables start ps os w
ready {start} t e f k = record {
  sized = record { rising = t.rising; parts = e ∙ t.parts; owners = ap length f ∙ length-replicate {A = ℕ} (length start) 0 };
  waiting = k;
}

-- behind a `!`
refused : (b n : Bool) → b ≡ n → not b ≡ true → n ≡ false
refused true n e h = absurd (subst T (sym h) tt)
refused false n e h = sym e

module _ (mode : Mode) (s : List ℕ) (h : FileHead) (qs us vs : List ℕ) where
  pub no_head : None ≡ head_in s h.nbytesname → Ran (ruled mode s h qs) (Err (fault reason.Head 100)) us vs
  unfolding ruled
  no_head e = ran_fault us vs (fault reason.Head 100) refl (rw (sym e))

  module _ {dh : DirHead} (e : Some dh ≡ head_in s h.nbytesname) where
    pub no_free : {b : Bool} → b ≡ free_holds mode s qs h → not b ≡ true → Ran (ruled mode s h qs) (Err (fault reason.Free h.seekfree)) us vs
    unfolding ruled
    no_free f g = ran_fault us vs (fault reason.Free h.seekfree) refl (rw (sym e, refused _ _ f g))

    module _ (f : free_holds mode s qs h ≡ true) where
      pub no_info : {b : Bool} → b ≡ info_holds s qs h → not b ≡ true → Ran (ruled mode s h qs) (Err (fault reason.Info h.seekinfo)) us vs
      unfolding ruled
      no_info i g = ran_fault us vs (fault reason.Info h.seekinfo) refl (rw (sym e, f, refused _ _ i g))

      pub go_on : (r : Result Listed Fault) (ps os : List ℕ) → info_holds s qs h ≡ true → ps ≡ first_parts s h qs → os ≡ zeros (length qs)
          → Ran (rounds s h qs (length qs) ps os 0) r us vs → Ran (ruled mode s h qs) r us vs
      unfolding ruled
      go_on r ps os g i j k = rw (sym e, f, g, sym i, sym j) k
