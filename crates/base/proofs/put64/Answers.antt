use Rattle.std.proofs.Common.{◌∙◌, arith}
use Rattle.base.specs.Bytes.{bytes_of}
use Rattle.base.proofs.Stores.{copied, eight}
use Rattle.base.proofs.put64.Goals as goal

pub returns : goal.returns
returns c =
    let a = c.args in
    copied a.s.now (bytes_of 8 a.x) a.at (c.copy_from_slice.ensures.after ∙ c.to_le_bytes.ensures ∙ eight a.x) (omega arith) c.requires
