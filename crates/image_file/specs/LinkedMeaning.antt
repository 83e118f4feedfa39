-- What the fields of the file of an image mean.
use Rattle.image_file.specs.declared.linked.image.LinkedImage.TheInside.{Inside}
use Rattle.image_file.specs.Linked.{LinkedContent, IsLinkedContent, contents}

abbrev pub image_of : Inside → LinkedContent
image_of a = record { main = a.main_name.items; words = a.words.items; files = contents a.files.items }

-- they are those of an image
abbrev pub IsKept : Inside → Type 0
IsKept a = IsLinkedContent (image_of a)
