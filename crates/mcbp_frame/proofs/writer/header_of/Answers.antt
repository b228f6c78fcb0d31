use Rattle.std.proofs.Common.{◌∙◌, ap}
use Rattle.std.specs.Int.{w32, to_be_bytes}
use Rattle.mcbp_frame.proofs.Headers.{header_is}
use Rattle.mcbp_frame.proofs.writer.header_of.Goals as goal

pub returns : goal.returns
returns c = header_is c.args.f.now c.len-extras.result c.lengths_of.result c.to_be_bytes.result c.to_be_bytes-2.result c.to_be_bytes-3.result c.to_be_bytes-4.result c.len-extras.ensures.value c.lengths_of.ensures c.to_be_bytes.ensures (c.to_be_bytes-2.ensures ∙ ap (to_be_bytes w32) c.requires.body) c.to_be_bytes-3.ensures c.to_be_bytes-4.ensures
