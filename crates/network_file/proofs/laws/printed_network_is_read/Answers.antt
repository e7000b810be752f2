use Rattle.network_file.proofs.ReadAgain.{printed_is_read}
use Rattle.network_file.proofs.laws.printed_network_is_read.Goals as goal

pub returns : goal.returns
returns c = printed_is_read
