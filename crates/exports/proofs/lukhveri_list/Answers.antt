-- `lukhveri_list`: what the lister's function gives back.
use Rattle.exports.proofs.lukhveri_list.Goals as goal

pub returns : goal.returns
returns c = c.list.ensures
