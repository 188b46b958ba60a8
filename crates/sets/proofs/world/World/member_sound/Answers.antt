use Rattle.sets.proofs.SetSoundLaws.{member_told}
use Rattle.sets.proofs.world.World.member_sound.Goals as goal

pub returns : goal.returns
returns c =
    member_told c.args.self.now _ c.requires.0 _ c.requires.1 _ _ c.ynd_of-ynd.ensures c.count_before-a.ensures
    c.count_before-c.ensures c.count_before-e.ensures c.requires.2 c.sound.ensures c.unwrap_or.ensures
