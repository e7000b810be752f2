use Rattle.network_file.proofs.ReadAgain.{file_is_of_one}
use Rattle.network_file.proofs.laws.file_is_of_one_network.Goals as goal

pub returns : goal.returns
returns c = file_is_of_one
