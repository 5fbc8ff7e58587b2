-- The layout has passed, so the header is there.
use Rattle.rules.specs.Coded.{format_of}
use Rattle.rules.proofs.Reading.{page_header, page_fine}
use Rattle.alp.proofs.show.show_header.Goals as goal

pub s_of-s-requires : goal.s_of-s-requires
s_of-s-requires c = (page_fine (format_of c.args.kind) c.args.page.now c.requires).0.eight

pub count_of-values-requires : goal.count_of-values-requires
count_of-values-requires c = (page_fine (format_of c.args.kind) c.args.page.now c.requires).0.eight

pub vectors_in-vectors-requires : goal.vectors_in-vectors-requires
vectors_in-vectors-requires c = page_header (format_of c.args.kind) c.args.page.now c.requires
