use Prim.Native.Nat.{ℕ, ◌+◌}
use mathlib.Core.Path.{sym, ap, ◌∙◌}
use Rattle.wire.specs.Layout.{offset_width, values_at}
use Rattle.wire.specs.Number.{num_at, signed_of}
use Rattle.wire.proofs.Signs.{signed_held}
use Rattle.key.specs.Header.{key_layout, key_from, key_at}
use Rattle.key.proofs.Headers.{placed}
use Rattle.key.proofs.header.read_key.Goals as goal

pub returns : goal.returns
unfolding key_at
returns c =
    let a = c.args in
    let w = offset_width a.version in
    let s = a.s.now in
    let p = placed w s a.at a.names in
    let z = c.be16-2.ensures in
    let q = ap (λ (n : ℕ). num_at w s (a.at + (18 + n))) c.width.ensures.0 in
    (λ i. record {
      nbytes = (c.be32.ensures ∙ sym p.nbytes) i;
      version = (c.requires.0 ∙ sym p.version) i;
      objlen = (c.be32-2.ensures ∙ sym p.objlen) i;
      datime = (c.be32-3.ensures ∙ sym p.datime) i;
      keylen = (c.be16.ensures.0 ∙ sym p.keylen) i;
      cycle = (signed_held _ z.1 c.signed16.ensures ∙ ap (signed_of 2) z.0 ∙ sym p.cycle) i;
      seekkey = (c.be_offset.ensures ∙ sym p.seekkey) i;
      seekpdir = (c.be_offset-2.ensures ∙ q ∙ sym p.seekpdir) i;
      class = a.names.class;
      name = a.names.name;
      title = a.names.title;
    })
    ∙ ap (λ (v : ℕ). key_from (values_at (key_layout (offset_width v)) s a.at) a.names) c.requires.0
