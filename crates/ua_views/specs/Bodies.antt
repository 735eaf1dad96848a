-- What structures of any type hold, looked at in place.
use Rattle.ua_types.specs.declared.extension_object.ExtensionObjectBody.{ExtensionObjectBody}
use Rattle.ua_types.specs.declared.extension_object.ExtensionObjectBody.TheVariants as bodies
use Rattle.ua_views.specs.declared.structures.ExtensionObjectBodyView.{ExtensionObjectBodyView}
use Rattle.ua_views.specs.declared.structures.ExtensionObjectBodyView.TheVariants as views

abbrev pub body_of : ExtensionObjectBodyView → ExtensionObjectBody
body_of views.Absent = bodies.Absent
body_of (views.Binary b) = bodies.Binary b
body_of (views.Xml b) = bodies.Xml b
