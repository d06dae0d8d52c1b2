-- `words::place_words` meets its contract. Assumes nothing.
use Rattle.file.specs.Readers.{ascii}
use Rattle.explaining.specs.Words.{place_words}
use Rattle.explaining.proofs.words.place_words.Goals as goal

pub returns-in-Register : goal.returns-in-Register
unfolding place_words ascii
returns-in-Register c = rw (c.in-Register.is, c.phrase.ensures, c.named.ensures)

pub returns-in-Attribute : goal.returns-in-Attribute
unfolding place_words ascii
returns-in-Attribute c = rw (c.in-Attribute.is, c.phrase-in-Attribute.ensures, c.say.ensures, c.named-in-Attribute.ensures)

pub returns-in-Fixed : goal.returns-in-Fixed
unfolding place_words ascii
returns-in-Fixed c = rw (c.in-Fixed.is, c.fixed_words.ensures)

pub returns-in-DeviceId : goal.returns-in-DeviceId
unfolding place_words ascii
returns-in-DeviceId c = rw (c.in-DeviceId.is, c.phrase-in-DeviceId.ensures, c.say-in-DeviceId.ensures)

pub returns-in-ToggleState : goal.returns-in-ToggleState
unfolding place_words ascii
returns-in-ToggleState c = rw (c.in-ToggleState.is, c.phrase-in-ToggleState.ensures, c.say-in-ToggleState.ensures)

pub returns-in-AttributeIndex : goal.returns-in-AttributeIndex
unfolding place_words ascii
returns-in-AttributeIndex c = rw (c.in-AttributeIndex.is, c.phrase-in-AttributeIndex.ensures, c.say-in-AttributeIndex.ensures)

pub returns-in-PaletteState : goal.returns-in-PaletteState
unfolding place_words ascii
returns-in-PaletteState c = rw (c.in-PaletteState.is, c.phrase-in-PaletteState.ensures, c.named-in-PaletteState.ensures)

pub returns-in-VPortState : goal.returns-in-VPortState
unfolding place_words ascii
returns-in-VPortState c = rw (c.in-VPortState.is, c.phrase-in-VPortState.ensures, c.named-in-VPortState.ensures)

pub returns-in-ReadAddress : goal.returns-in-ReadAddress
unfolding place_words ascii
returns-in-ReadAddress c = rw (c.in-ReadAddress.is, c.phrase-in-ReadAddress.ensures, c.read_address_word.ensures)

pub returns-in-WriteAddress : goal.returns-in-WriteAddress
unfolding place_words ascii
returns-in-WriteAddress c = rw (c.in-WriteAddress.is, c.phrase-in-WriteAddress.ensures, c.write_address_word.ensures)

pub returns-in-PixelData : goal.returns-in-PixelData
unfolding place_words ascii
returns-in-PixelData c = rw (c.in-PixelData.is, c.phrase-in-PixelData.ensures, c.say-in-PixelData.ensures)

pub returns-in-ToggleReset : goal.returns-in-ToggleReset
unfolding place_words ascii
returns-in-ToggleReset c = rw (c.in-ToggleReset.is, c.phrase-in-ToggleReset.ensures, c.say-in-ToggleReset.ensures)

pub returns-in-Unnamed : goal.returns-in-Unnamed
unfolding place_words ascii
returns-in-Unnamed c = rw (c.in-Unnamed.is, c.phrase-in-Unnamed.ensures, c.say-in-Unnamed.ensures)

pub returns-in-UnnamedAttribute : goal.returns-in-UnnamedAttribute
unfolding place_words ascii
returns-in-UnnamedAttribute c = rw (c.in-UnnamedAttribute.is, c.phrase-in-UnnamedAttribute.ensures, c.say-in-UnnamedAttribute.ensures)

pub returns-in-CurrentLine : goal.returns-in-CurrentLine
unfolding place_words ascii
returns-in-CurrentLine c = rw (c.in-CurrentLine.is, c.phrase-in-CurrentLine.ensures, c.say-in-CurrentLine.ensures)

pub returns-in-Passing : goal.returns-in-Passing
unfolding place_words ascii
returns-in-Passing c = rw (c.in-Passing.is, c.phrase-in-Passing.ensures, c.say-in-Passing.ensures)
