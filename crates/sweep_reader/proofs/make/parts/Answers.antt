-- `sweep_reader::make::parts`: each part behind the one before it.
-- Assumes nothing.
use Rattle.sweep_reader.specs.Make.{parts_made}
use Rattle.text.proofs.Rooms.{behind}
use Rattle.sweep_reader.proofs.make.parts.Goals as goal

pub returns : goal.returns
unfolding parts_made
returns c =
    let timed = behind c.header-header_end.ensures c.time_code-time_code_end.ensures in
    let served = behind (behind timed c.captions-captions_end.ensures) c.services-services_end.ensures in
    behind (behind (behind served c.futures-futures_end.ensures) c.footer-footer_end.ensures) c.repeat.ensures
