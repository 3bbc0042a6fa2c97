use Rattle.notations.specs.Formats.{ends_alike}
use Rattle.deals_cli.proofs.Finding.{found_is_picked, found_is_read}
use Rattle.deals_cli.proofs.laws.picking_what_was_found_is_making.Goals as goal

pub returns-clause-read : goal.returns-clause-read
returns-clause-read c plan form few = found_is_read plan form few

pub returns-clause-picked : goal.returns-clause-picked
returns-clause-picked c layout plan form S B alike few = found_is_picked layout plan form S B alike few

pub returns-clause-formats : goal.returns-clause-formats
returns-clause-formats c format heading = ends_alike format heading
