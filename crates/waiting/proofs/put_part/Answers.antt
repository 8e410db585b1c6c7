use mathlib.Core.Path.{refl}
use Rattle.waiting.proofs.Keeping.{put_mended}
use Rattle.waiting.proofs.put_part.Goals as goal

pub returns : goal.returns
returns c =
    put_mended c.args.part.now c.args.row c.args.new _ c.requires.0 c.requires.1 refl c.climb.ensures
