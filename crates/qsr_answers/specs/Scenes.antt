-- What `scene` writes of polygons: the network that they draw.
use Rattle.std.specs.Prelude.{◌≡◌, ℕ, List}
use Rattle.calculus_builtin.specs.Rcc8.{rcc8_algebra, rcc8_calculus}
use Rattle.network_words.specs.Network.{Network}
use Rattle.network_words.specs.Closure.{IsClosure}
use Rattle.network_file.specs.NetworkText.{network_text}
use Rattle.geo_facts.specs.PolygonFile.{NamedRing}
use Rattle.geo_sound.specs.Scene.{IsScene}

-- the text of the network whose nodes have the polygons' names and whose sets have the one relation of each pair;
-- it is its own closure
pub record IsSceneText (polygons : List NamedRing) (text : List ℕ) : Type 0 where
  pub net : Network
  pub is_scene : IsScene polygons net
  pub is_closure : IsClosure rcc8_algebra net.nodes net.words net.words
  pub text_is : text ≡ network_text rcc8_calculus net
